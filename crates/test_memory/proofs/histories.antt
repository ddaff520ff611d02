mod Reading
mod Opened
mod Calls
