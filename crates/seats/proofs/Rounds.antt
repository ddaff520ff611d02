-- Rounds: what the processors make of a memory, each its own words, in phases that stand one after another.
-- What a processor accessed in a phase, of its calls and of a history. (PhaseAccesses)
-- One round: all words are those after it. (RoundMade)
-- Event by event: the memory is that after so many rounds, and what each processor has made since. (RoundSteps)
-- So at the end it is that after all rounds. (RoundsLaw)
-- What a program shows of its own calls. (MakingRounds)
-- Two grids, one of which each round makes from the other. (GridRounds)
-- Grids whose words are made one by one. (StencilRounds)
-- Who may access which words of the grids. (GridLayouts)
pub mod PhaseAccesses
pub mod RoundMade
pub mod RoundSteps
pub mod RoundHistories
pub mod MakingRounds
pub mod GridRounds
pub mod EvenRounds
pub mod StencilRounds
pub mod ClosedLayouts
pub mod GridLayouts
pub mod RoundsByPrograms
