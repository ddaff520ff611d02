use Rattle.std.proofs.Common.{ℕ, ◌≡◌, ◌<◌, [], Some}
use Rattle.std.specs.Prelude.{None, slice_index, slice_index_or}
use Rattle.journal.specs.declared.event.Kind.TheVariants.{Ask}
use Rattle.explore.proofs.search.free_choice.free_choice_may_all_ask.Given as goal

abbrev pub invariant-loop-processor : goal.invariant-loop-processor
invariant-loop-processor l = (p : ℕ) → p < l.processor
    → slice_index l.state.done p < slice_index_or (slice_index_or l.ends p []) l.lock 0
    → slice_index_or l.nexts p None ≡ Some (Ask l.lock)
