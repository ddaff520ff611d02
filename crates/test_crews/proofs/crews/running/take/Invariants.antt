use Rattle.std.proofs.Common.{◌≡◌}
use Rattle.test_crews.specs.Crews.Crews.{IsOf}
use Rattle.test_crews.proofs.crews.running.take.Given as goal

abbrev pub invariant-loop : goal.invariant-loop
invariant-loop g l = IsOf l.cluster l.processor × (l.processor.number ≡ l.initial.processor.number)
