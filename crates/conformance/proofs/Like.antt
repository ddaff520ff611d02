-- Histories that are the same but for values: everything that values don't decide is the same in both.
-- The same kinds stand at the same places, so counts agree. (Places) So edges, happens-before and races do. (Order)
-- What may follow goes by these alone, and so what is like a well formed history is well formed. (WellFormed)
pub mod Places
pub mod Order
pub mod Gaps
pub mod WellFormed
