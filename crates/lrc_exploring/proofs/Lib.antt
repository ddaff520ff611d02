pub mod ToldAnswers
pub mod JsonFronts
