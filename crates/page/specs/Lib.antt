pub mod PageChanges
pub mod Contents
pub mod PageMarks
pub mod CarriedHarvests
pub mod Prelude
