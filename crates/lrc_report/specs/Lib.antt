pub mod WritesThrough
pub mod ReportText
pub mod Prelude
