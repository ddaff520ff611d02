-- What stands before a line: the lines of a script lead from nothing to the whole, and in one way.
-- What is read so far is determined by the lines (Runs) and is the beginning of some script's text (Begins, Texts).
-- Read to the end it is the script of the text (Passes). So a fault at a line says that no script goes on so.
pub mod RunLines
pub mod PassedLines
pub mod FilledFront
pub mod FrontTexts
