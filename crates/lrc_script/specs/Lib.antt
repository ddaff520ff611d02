pub mod Plan
pub mod Lawful
pub mod ScriptLines
pub mod ScriptFront
pub mod ScriptFaults
pub mod LineReading
pub mod Laws
pub mod Prelude
