use Rattle.std.proofs.Common.{◌≡◌}
use Rattle.book.specs.Transitions.{transition_trimmed_by}
use Rattle.book.proofs.trims.trim.Given as goal

abbrev pub invariant-loop-owner : goal.invariant-loop-owner
invariant-loop-owner l = l.closed ≡ transition_trimmed_by l.fn.closed l.times l.owner
