pub mod AppendsThrough
pub mod ReportLines
