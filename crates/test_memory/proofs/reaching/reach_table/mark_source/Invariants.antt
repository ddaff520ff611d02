use Rattle.std.proofs.Common.{◌≡◌, ℕ, ◌<◌, ◌≤◌, ◌||◌, ◌==◌, false, slice_index_or}
use Rattle.test_memory.proofs.reaching.reach_table.mark_source.Given as goal

abbrev pub invariant-loop-i : goal.invariant-loop-i
invariant-loop-i l = record {
  marked : (k : ℕ) → k < l.i
      → slice_index_or l.row k false
      ≡ (slice_index_or l.fn.row k false || (slice_index_or l.other k false || (k == l.source)));
  same : (k : ℕ) → l.i ≤ k → slice_index_or l.row k false ≡ slice_index_or l.fn.row k false;
}
