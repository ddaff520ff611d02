use Rattle.std.proofs.Common.{ℕ, IsTrue, false, slice_index_or}
use Rattle.explore.proofs.text.guards.common_guards.Given as goal

abbrev pub invariant-loop-lock : goal.invariant-loop-lock
invariant-loop-lock l = (q : ℕ) → IsTrue (slice_index_or l.both q false)
    → IsTrue (slice_index_or l.first q false) × IsTrue (slice_index_or l.second q false)
