-- A line is read by its words: cut at spaces, the first a keyword, the rest numbers.
-- Cutting at a separator loses nothing (Splits, Words); a number has one spelling (Digits, Numbers), a keyword too.
-- So a printed line is read as itself, and what is read prints the line (Lines, Commands).
pub mod Splits
pub mod Separators
pub mod Digits
pub mod DecimalNumbers
pub mod FirstNumbers
pub mod Keywords
pub mod InstructionStep
pub mod KeywordLines
pub mod LineCases
pub mod CommandNumbers
