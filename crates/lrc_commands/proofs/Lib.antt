pub mod StatusMeanings
pub mod JudgedSources
pub mod StudiedScripts
pub mod DrawnHistories
