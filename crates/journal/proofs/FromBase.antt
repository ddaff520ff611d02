-- What is left of a journal after a cut says, read from the base, what the whole history says.
-- The cut stands at the end of an episode: all that was cut off happens before all that is left. (Ends, Episodes, Before)
-- The base keeps what of it still counts: memory, holders, flags (Holding, Noted; nothing where Uncut). So order, races,
-- loads, copies and form are the same, read either way (Order, Races, Loads, Copies, WellFormed); Whole has the laws.
-- Opening, Cutting: the first arrivals behind a cut; a cut of what a cut left.
pub mod OrderOfLeft
pub mod EpisodeCounts
pub mod CutBeforeLeft
pub mod BaseAppend
pub mod WellFormedAfterCut
pub mod RacesAcrossCut
pub mod LongerAndShorter
pub mod ExplainedByLast
pub mod Uncut
pub mod CutAgain
pub mod PageCopies
pub mod CutLaws
pub mod KeptStep
pub mod CutPlaces
pub mod OpeningAsBase
