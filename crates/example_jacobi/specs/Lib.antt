pub mod Plates
pub mod Prelude
