use Rattle.std.proofs.Common.{ℕ, ◌≡◌, ◌<◌, false, slice_index_or}
use Rattle.explore.proofs.text.text_accesses.are_same_guards.Given as goal

abbrev pub invariant-loop-lock : goal.invariant-loop-lock
invariant-loop-lock l = (m : ℕ) → m < l.lock → slice_index_or l.first m false ≡ slice_index_or l.second m false
