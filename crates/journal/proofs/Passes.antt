-- What passes over a journal rest on: after the first n events a pass holds what is defined of those n.
-- The race checker's clocks are timestamps of the events so far (FirstClocks, ClockSteps), its accesses the last ones
-- of each word (RaceSteps); replay and traffic go on by one event (Replaying, Spending).
pub mod ReplayedSoFar
pub mod SpentTraffic
pub mod ClockZeros
pub mod FirstClocks
pub mod NextClocks
pub mod NextRaces
