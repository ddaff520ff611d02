pub mod SetsHeld
pub mod WithoutLocks
pub mod NeedingLocks
pub mod KeptAccesses
pub mod WatchedWords
pub mod TellingLocksets
