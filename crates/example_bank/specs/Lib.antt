pub mod Accounts
pub mod Prelude
