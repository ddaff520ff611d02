pub mod KeepingCuts
