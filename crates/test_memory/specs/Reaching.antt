pub mod Reach
pub mod Prelude
