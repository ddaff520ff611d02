use Rattle.std.proofs.Common.{ℕ, ◌<◌, IsTrue, false, slice_index_or}
use Rattle.explore.proofs.text.text_accesses.have_common_guard.Given as goal

abbrev pub invariant-loop-lock : goal.invariant-loop-lock
invariant-loop-lock l = (m : ℕ) → m < l.lock → IsTrue (slice_index_or l.first m false) → ¬ IsTrue (slice_index_or l.second m false)
