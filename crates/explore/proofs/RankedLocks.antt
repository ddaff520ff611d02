pub mod OwnCalls
pub mod RankedLocks
