pub mod ReadingSources
pub mod LoadRows
pub mod Answering
