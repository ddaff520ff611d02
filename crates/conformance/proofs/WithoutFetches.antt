-- A history's races stay without its fetches, so that it is enough to look at flat runs without any.
-- It is a projection that leaves out fetches alone. (Embeds, WellFormed)
-- A fetch has no edge but its processor's own order, so order and races stay, and a flat run is one. (Order, Runs)
pub mod HistoryWithoutFetches
pub mod WellFormed
pub mod Races
pub mod Runs
