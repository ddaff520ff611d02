use Rattle.std.proofs.Common.{◌≡◌, map}
use Rattle.std.specs.List.{list_all}
use Rattle.test_crews.proofs.counters.counting.chairs_of.Given as goal

abbrev pub invariant-loop-chair : goal.invariant-loop-chair
invariant-loop-chair l = (l.chairs.items ≡ map (λ p. p.0) l.yielded) × (l.all ≡ list_all (λ p. p.1) l.yielded)
