use Rattle.std.proofs.Common.{take}
use Rattle.journal.specs.CutEpisodes.{AreCutEpisodes}
use Rattle.journal.proofs.episodes.Episodes.of.Given as goal

abbrev pub invariant-loop-place : goal.invariant-loop-place
invariant-loop-place l = AreCutEpisodes l.processors (take l.place l.events) l.episodes
