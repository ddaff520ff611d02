pub mod EventsNoted
pub mod NextCalls
pub mod AsksPutIn
pub mod Promised
pub mod Followed
