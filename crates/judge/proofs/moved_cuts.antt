pub mod MovingCuts
