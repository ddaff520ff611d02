use Rattle.std.proofs.Common.{◌≤◌}
use Rattle.cluster.proofs.copies.backlog.Backlog.back_from.Given as goal

abbrev pub invariant-loop-at : goal.invariant-loop-at
invariant-loop-at l = record { within : l.at ≤ l.from }

abbrev pub decreases-loop-at : goal.decreases-loop-at
decreases-loop-at l = l.at
