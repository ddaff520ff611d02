mod Stepping
mod Crewing
