pub mod Excerpts
pub mod Prelude
