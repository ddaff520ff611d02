pub mod Reading
pub mod LawfulSizes
pub mod SectionTexts
pub mod Front
pub mod Faults
pub mod LineLengths
