use Rattle.std.proofs.Common.{ℕ, ◌<◌}
use Rattle.journal.specs.declared.event.Kind.{Kind}
use Rattle.explore.specs.Nexts.{AreNextInConflict}
use Rattle.explore.proofs.search.neighbours.neighbour_of.Given as goal

abbrev pub invariant-loop-other : goal.invariant-loop-other
invariant-loop-other l = (q : ℕ) (b : Kind) → q < l.other → ¬ AreNextInConflict l.nexts l.processor q l.kind b
