use Rattle.std.proofs.Common.{◌≤◌, ◌-◌}
use Rattle.cluster.proofs.copies.Cleaned.{IsCleanBelow}
use Rattle.cluster.proofs.copies.harvesting.clean.Given as goal

abbrev pub invariant-loop-page : goal.invariant-loop-page
invariant-loop-page l = record {
  within : l.next ≤ 64;
  clean : IsCleanBelow l.initial.replicas l.replicas l.stored l.next;
}

abbrev pub decreases-loop-page : goal.decreases-loop-page
decreases-loop-page l = 64 - l.next
