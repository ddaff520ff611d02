pub mod SentIntervals
pub mod KeptClosings
pub mod IntervalQueues
pub mod PageCounts
pub mod Prelude
