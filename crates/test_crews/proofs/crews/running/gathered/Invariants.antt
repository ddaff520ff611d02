use Rattle.std.proofs.Common.{◌≡◌, map}
use Rattle.test_crews.proofs.crews.running.gathered.Given as goal

abbrev pub invariant-loop-processor : goal.invariant-loop-processor
invariant-loop-processor g l = l.processors.items ≡ map (λ p. p.0) l.yielded
