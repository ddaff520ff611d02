-- Neighbours: without two accesses that may come next and conflict no beginning races; with them one does (Racing).
-- An access may still be made after others' events, a load with another reply (Replies). In a shortest beginning that
-- races nothing is reached from the first access, else that could be left out (LastRace). So it can be made last (Law).
pub mod Replies
pub mod Racing
pub mod LastRace
pub mod NoNeighbours
