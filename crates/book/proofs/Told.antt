-- A transition keeps the book told: before by a history, after by that history with the event.
-- What all closing and all taking events have in common stands in Events; each kind adds its own part of the book.
-- Whole transitions are the block's events, one by one, and then the event itself (Whole).
pub mod BookEvents
pub mod Locks
pub mod Flags
pub mod Arriving
pub mod TakingMessages
pub mod Starting
pub mod WholeLaws
pub mod NamedReady
