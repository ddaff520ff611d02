-- Happens-before as the journal goes on: what was said of its events stays so.
-- Places and counts of a front don't change (Places); a new event has edges to itself alone, so nothing before gets new
-- ones (HappensBefore); so a processor's past grows by its own calls (Pasts), also under an open block (BlockPasts).
pub mod EventPlacesAndCounts
pub mod HappensBefore
pub mod IntoPast
pub mod BlockPasts
