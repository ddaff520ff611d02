pub mod Served
pub mod ExitStatus
pub mod Prelude
pub mod Hints
