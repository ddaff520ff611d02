pub mod Telling
pub mod Keeping
pub mod Records
pub mod Reading
pub mod Prelude
