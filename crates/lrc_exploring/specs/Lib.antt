pub mod ExploreJson
pub mod ExploreAnswers
pub mod Prelude
