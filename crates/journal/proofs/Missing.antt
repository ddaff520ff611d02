-- A stale copy lacks whole intervals: those between two timestamps that wrote to the page.
-- An event adds to the gap or leaves it (Keeping); the gap in closing order extends happens-before (InGroups, Placed).
-- So done to the stale copy in that order the missing records give a lawful copy (CountedLabels).
pub mod MissingGaps
pub mod ClosingRanks
pub mod InGroups
pub mod MissingLabels
pub mod StillMissing
pub mod GapsCounted
