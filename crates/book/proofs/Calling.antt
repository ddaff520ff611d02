-- What a call rests on is read off the book, so that the history needn't be opened in the call.
-- The book's parts say who holds, waits, has arrived; with `Represents` these are what the history allows. (Calls)
-- A file a kind of call: what allows it, and which book it makes.
pub mod IdleCalls
pub mod AskAndSetCalls
pub mod Receiving
pub mod Releases
pub mod BarrierArrivals
pub mod Posting
pub mod BookCut
pub mod WaitingPlaces
pub mod NamedWaiting
