pub mod ListItems
pub mod ChairLists
mod LawfulBoards
mod ChairPlaces
mod Guests
mod NumbersServed
mod AllowedSteps
mod Conferring
mod DealingAndGatheringChairs
mod TakingTurns
