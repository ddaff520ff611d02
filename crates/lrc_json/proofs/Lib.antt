pub mod NoFloats
pub mod PutLines
pub mod CheckedLines
