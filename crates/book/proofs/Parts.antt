-- The book is told by the history: each part of it stays what the history says, under one more event.
-- An event changes one item of a part or none (Each, Doings); the history says the same of all other items.
-- A file a part: locks' lines, flags, barrier, timestamps, mail, closed intervals. Told puts them together.
pub mod Each
pub mod HeldHistory
pub mod LastEvents
pub mod Stamps
pub mod LockLines
pub mod PostedMail
pub mod FlagStamps
pub mod BarrierStages
pub mod BookIntervals
pub mod TightTrims
pub mod TimedTrims
pub mod ProcessorTimes
pub mod SentNews
