pub mod TicksAndJoins
