-- Drawn scripts are lawful, whatever the generator answers.
-- A loop's draws are one list of pieces (Repeated); a piece holds no lock at its ends, so pieces may stand in any order
-- (Safe); all sections get the same number of barriers, so the whole is lawful (Lawful).
pub mod Repeated
pub mod Safe
pub mod Lawful
