pub mod Ranges
pub mod Clashes
pub mod FinalWords
pub mod PageWords
pub mod OptionRules
pub mod ScriptWords
