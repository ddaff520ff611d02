-- A vector timestamp counts, of each processor, the closed intervals that lie in a past.
-- A path to another processor leaves by a closing event (Leaving), so a past has a closed interval whole or not at all
-- (Closing), and entries tell happens-before (Uses). Each event changes one processor's timestamp (Pushes).
pub mod TimesOfPlaces
pub mod PushedTimes
pub mod LeavingCloses
pub mod IntervalClosers
pub mod IntervalNumbers
pub mod KeptTimes
pub mod OrderByTime
pub mod BlockTime
