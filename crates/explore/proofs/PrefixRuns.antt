pub mod Steps
pub mod SectionCalls
pub mod Beginnings
pub mod Removal
pub mod Neighbours
