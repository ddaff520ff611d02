pub mod Draw
pub mod Prelude
