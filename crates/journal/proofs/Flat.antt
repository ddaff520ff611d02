-- Up to its first race, an explained journal replays on one flat memory.
-- Without a race all stores to a word are ordered, so the latest store of a load's past is the last one made. (Stores)
-- Event by event the flat memory therefore has the word that the load answers. (FlatMemory)
pub mod FlatConflicts
pub mod FlatBeforeRace
