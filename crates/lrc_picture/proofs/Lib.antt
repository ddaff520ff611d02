pub mod Lanes
pub mod DrawnMarks
pub mod DrawnCutouts
pub mod DrawnTimestamps
