pub mod Counters
pub mod Crews
