-- How many notices of each page would be sent, counted without making the list.
-- A loop adds an interval's pages to the counts (Counted), an owner's queue after the other (Walked).
-- The sum over owners is that of the closing order, and is at most the number of intervals closed. (Most)
pub mod PageCountsGrow
pub mod MostNotices
pub mod WalkedNews
