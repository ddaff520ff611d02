-- A history that follows a script is done again on one flat memory, and in one way only.
-- Event by event each load gets the word of the flat memory, and an add stores what follows. (Replaying, Redoing)
-- The result is like the history, and is a flat run. (Recomputed) Two histories that are alike are the same if they answer the
-- same after the same events, and two flat runs do. (OnlySameCalls)
pub mod EventReplays
pub mod Redoing
pub mod Recomputed
pub mod AnsweredAlike
