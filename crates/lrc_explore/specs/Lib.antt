pub mod ExploreTexts
pub mod AllowedTexts
pub mod Showings
pub mod AllowedShowings
pub mod Prelude
pub mod Schedules
pub mod OpenTexts
