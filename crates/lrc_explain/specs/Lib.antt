pub mod ExplainTexts
pub mod Prelude
