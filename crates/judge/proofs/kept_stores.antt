pub mod KeepingStores
pub mod LastKept
pub mod ChoosingKept
pub mod AnsweringKept
pub mod LettingGo
pub mod FoundLatest
