-- A queue an owner, and contracts see one list in closing order: the merged queues.
-- Merging keeps every interval once and in order (Merged); a push adds the last (Pushed), a trim takes from the fronts
-- (Trimmed), and an interval is found by owner and number where the merged list has it (Found).
pub mod Merged
pub mod Empty
pub mod LastPushed
pub mod TrimmedQueues
pub mod FirstFound
