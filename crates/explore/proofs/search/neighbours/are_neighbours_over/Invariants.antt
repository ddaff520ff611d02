use Rattle.std.proofs.Common.{ℕ, ◌≢◌, ◌<◌, Some, slice_index_or}
use Rattle.std.specs.Prelude.{None}
use Rattle.journal.specs.declared.event.Kind.{Kind}
use Rattle.explore.proofs.search.neighbours.are_neighbours_over.Given as goal

abbrev pub invariant-loop-processor : goal.invariant-loop-processor
invariant-loop-processor l = (p : ℕ) (k : Kind) → p < l.processor → slice_index_or l.nexts p None ≢ Some k
