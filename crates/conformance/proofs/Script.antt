-- A section as a list of steps, so that one more call of a processor can be judged alone.
-- A step says of the next call what the script says of it, but for the reply of a load. (Steps)
-- Calls follow a section exactly where they are, one by one, as its steps say. (Sections)
pub mod ScriptSteps
pub mod SectionSteps
