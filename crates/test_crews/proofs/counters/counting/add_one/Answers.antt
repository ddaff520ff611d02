use Rattle.std.proofs.Common.{◌+◌, refl, arith}
use Rattle.turn.specs.Chairs.{chair_place, chair_view}
use Rattle.test_crews.proofs.counters.Sums.{adds, bounded}
use Rattle.test_crews.proofs.counters.counting.add_one.Goals as goal

pub overflow_add-count : goal.overflow_add-count
overflow_add-count g c = let fact = c.in_ok-held.ensures.fact in let small =
    bounded c.in_ok-held.count fact.0 fact.2 in omega arith

pub leave-requires-clause-inside : goal.leave-requires-clause-inside
leave-requires-clause-inside g c =
    let entered = c.in_ok-held.ensures.entered in
    let room = c.requires.room in
    let same = entered.3 in (
      c.in_ok-held.count,
      entered.4,
      λ views at
          rules. (
            chair_view c.enter.new.chair + 1,
            refl,
            adds c.in_ok-held.count views (chair_place c.enter.new.chair) (chair_view c.enter.new.chair) rules at (omega arith),
          ),
    )
