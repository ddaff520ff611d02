use Rattle.std.proofs.Common.{◌≡◌}
use Rattle.test_crews.specs.Crews.Crews.{IsOf}
use Rattle.test_crews.proofs.crews.running.perform_all.Given as goal

abbrev pub invariant-loop-task : goal.invariant-loop-task
invariant-loop-task g l = IsOf l.cluster l.processor × (l.processor.number ≡ l.initial.processor.number)
