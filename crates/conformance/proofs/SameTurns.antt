-- What the turns determine: two runs of a script side by side, by the same turns.
-- Calls that are the same but for values are noted the same. (Noted) So a turn makes the same of both. (SideBySide)
-- Where loads answer the words of copies, the values are the same too (Values); so runs to their ends have one history (Ends),
-- and their reports say the same. (Reports)
pub mod InstructionKinds
pub mod NotedBlocks
pub mod SideBySide
pub mod Along
pub mod Settled
pub mod CopyValues
pub mod TurnEnds
pub mod TurnReports
