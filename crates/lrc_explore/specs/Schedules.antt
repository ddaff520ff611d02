pub mod ExploredLaws
pub mod Prelude
