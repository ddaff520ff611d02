pub mod InOrderOnce
pub mod LastWrite
pub mod AppliedRecords
pub mod Limits
pub mod Prelude
