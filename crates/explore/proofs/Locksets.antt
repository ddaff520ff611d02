pub mod Calls
pub mod FlagsFirst
pub mod TextGuardLaw
pub mod Noted
