pub mod Reaching
pub mod Histories
