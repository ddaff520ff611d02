pub mod UsesNoted
pub mod FlagsMet
pub mod OrderPassed
pub mod WordsPassed
pub mod NextSteps
