-- Removal: a beginning stays one where an event is left out that nothing behind it is reached from or conflicts with.
-- What is left keeps its order of places (Places), so others' last events, locks and counts stay (Stays); so does what
-- may follow (Follows), what loads answer (Words), and order among what is left (Order). Event by event: Removed.
pub mod Places
pub mod Stays
pub mod Follows
pub mod Words
pub mod Order
pub mod Removed
