pub mod CutsOfPlaces
pub mod PushedCuts
pub mod KeptCuts
pub mod FirstCuts
pub mod NextCuts
