pub mod SameBeginnings
pub mod Swapping
pub mod Reaching
pub mod Later
pub mod Ends
pub mod Soon
pub mod Persistent
pub mod Chosen
