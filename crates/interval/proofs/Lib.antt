pub mod Order
pub mod Queues
pub mod Records
pub mod News
pub mod Counts
