use Rattle.std.proofs.Common.{ℕ, ◌<◌, IsTrue, false, slice_index_or}
use Rattle.explore.proofs.text.lock_ranks.are_ranked_above.Given as goal

abbrev pub invariant-loop-other : goal.invariant-loop-other
invariant-loop-other l = (m : ℕ) → m < l.other → IsTrue (slice_index_or l.held m false)
    → slice_index_or l.ranks l.lock 0 < slice_index_or l.ranks m 0
