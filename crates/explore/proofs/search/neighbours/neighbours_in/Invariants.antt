use Rattle.std.proofs.Common.{ℕ, ◌<◌}
use Rattle.journal.specs.declared.event.Kind.{Kind}
use Rattle.explore.specs.Nexts.{AreNextInConflict}
use Rattle.explore.proofs.search.neighbours.neighbours_in.Given as goal

abbrev pub invariant-loop-processor : goal.invariant-loop-processor
invariant-loop-processor l = (p q : ℕ) (a b : Kind) → p < l.processor → ¬ AreNextInConflict l.nexts p q a b
