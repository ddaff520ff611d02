use Rattle.std.proofs.Common.{◌≤◌, ◌-◌, map, take}
use Rattle.std.specs.Arc.{arc_value}
use Rattle.cluster.specs.Copies.MarkedCopiesAndHarvests.{AreHarvestsOfCopies}
use Rattle.cluster.proofs.copies.harvesting.harvest.Given as goal

abbrev pub invariant-loop-page : goal.invariant-loop-page
invariant-loop-page l = record {
  within : l.next ≤ 64;
  harvests : AreHarvestsOfCopies (take l.next l.replicas) (map arc_value l.records.items);
}

abbrev pub decreases-loop-page : goal.decreases-loop-page
decreases-loop-page l = 64 - l.next
