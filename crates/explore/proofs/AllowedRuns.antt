pub mod CallsMade
pub mod NextAllowed
pub mod Answers
pub mod Lengthened
pub mod ExchangedPlaces
pub mod Commuting
pub mod SearchByRules
pub mod AllowedUntil
