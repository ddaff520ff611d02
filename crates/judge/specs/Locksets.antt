pub mod Unlocked
pub mod Pairs
pub mod Held
pub mod Watched
pub mod KeptLocksets
pub mod Prelude
