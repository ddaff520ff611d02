use Rattle.std.proofs.Common.{◌≡◌, ◌+◌}
use Rattle.turn.specs.Chairs.{chair_view, entries, IsChairOutside, IsSameChair}
use Rattle.test_crews.proofs.counters.counting.add_many.Given as goal

abbrev pub invariant-loop : goal.invariant-loop
invariant-loop g l =
    IsSameChair l.initial.chair l.chair × IsChairOutside l.chair
    × (chair_view l.chair ≡ chair_view l.initial.chair + l.counter) × (entries l.chair ≡ entries l.initial.chair + l.counter)
