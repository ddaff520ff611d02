pub mod Drawing
pub mod Patterns
pub mod Following
pub mod Commands
