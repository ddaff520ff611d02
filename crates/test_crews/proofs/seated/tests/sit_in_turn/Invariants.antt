use Rattle.std.proofs.Common.{◌≡◌, ◌++◌}
use Rattle.std.specs.Vec.Iter.{into_iter_items}
use Rattle.test_crews.proofs.seated.tests.sit_in_turn.Given as goal

abbrev pub invariant-loop-processor : goal.invariant-loop-processor
invariant-loop-processor g l = l.yielded ++ into_iter_items l.processor-iterator ≡ l.fn.processors.items
