pub mod AskedScripts
pub mod MatchedOptions
pub mod WrittenProcessors
pub mod FinalWordItems
pub mod PageWordItems
