pub mod WholeSource
pub mod PrintedScripts
pub mod StatusMeanings
