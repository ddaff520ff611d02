-- A history's projection to the events of some kinds, if that leaves out loads, stores and fetches alone.
-- Its events embed into the whole: places rise, counts of a kind agree. (Embeds)
-- What is left out has no edge but its processor's own order, and no processor has such an event while it waits. So the
-- projection of a well formed history is well formed, and what may follow it may follow the whole (WellFormed), and what
-- happens before what in it does so in the whole. (Order)
pub mod Embeds
pub mod WellFormed
pub mod Order
