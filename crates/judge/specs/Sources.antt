pub mod Latest
pub mod LatestAnswers
pub mod Prelude
