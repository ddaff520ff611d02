mod Sums
mod Many
