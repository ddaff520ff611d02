pub mod AddedLines
