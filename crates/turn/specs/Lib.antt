pub mod Stages
pub mod Chairs
pub mod ChairRuns
pub mod Tickets
pub mod Boards
pub mod SeatSteps
pub mod LawOfTurns
pub mod Prelude
