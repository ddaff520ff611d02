-- What keeps a journal well formed, so that a call needs to look only at what its event may follow.
-- A lock has at most one holder, and its releases are in order (Holding, Holders); a processor has arrived once more
-- than it departed exactly while it waits at the barrier (Balance); so who may go on is read off counts (Ready).
pub mod WellFormedStays
pub mod HoldingReleases
pub mod HoldsOfOthers
pub mod MayGoOn
pub mod ArrivalBalance
pub mod JournalMemory
pub mod HistoryAfterCut
pub mod AfterDeadlock
pub mod EveryClosing
