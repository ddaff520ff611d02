mod Deeds
mod DeedHistories
mod PhaseOrders
mod GuardedDeeds
mod LayoutTables
mod SeatAccess
mod SeatClosings
mod SeatFaults
mod StillSitting
mod ProgramThreads
mod ToldFaults
mod KeptSeats
pub mod KeptFacts
pub mod KeptByPrograms
pub mod Rounds
pub mod AddedTallies
pub mod TalliedHistories
pub mod KeptReads
pub mod SeatActing
mod ActingFaults
pub mod GuardedRuns
pub mod BalancedTenures
pub mod BalancedRuns
mod SummedLoads
mod WeighedSides
