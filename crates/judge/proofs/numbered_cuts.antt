pub mod HighCuts
