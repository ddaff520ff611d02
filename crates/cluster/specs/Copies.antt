pub mod Backlogs
pub mod PageReplica
pub mod MissingRecordCounts
pub mod Local
pub mod Sound
pub mod AfterNews
pub mod MarkedCopiesAndHarvests
pub mod Prelude
