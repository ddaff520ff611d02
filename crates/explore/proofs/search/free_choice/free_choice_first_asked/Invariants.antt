use Rattle.std.specs.Prelude.{⊤}
use Rattle.explore.proofs.search.free_choice.free_choice_first_asked.Given as goal

abbrev pub invariant-loop-processor : goal.invariant-loop-processor
invariant-loop-processor l = ⊤
