-- Intervals in the order in which they were closed, from queues that are in order owner by owner.
-- Closing numbers differ, so rising lists with the same intervals are equal. (ByPlace, Sorted)
-- The earliest of a rising list that passes a test is the first that does. (Least)
pub mod RisingByPlace
pub mod Least
pub mod SortedPlaces
