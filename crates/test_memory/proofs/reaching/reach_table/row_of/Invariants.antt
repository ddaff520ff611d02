use Rattle.std.proofs.Common.{◌≡◌, ◌↔◌, ℕ, ◌<◌, IsTrue, false, length, slice_index_or, vec_len}
use Rattle.test_memory.proofs.reaching.Reaching.{Reaches}
use Rattle.test_memory.proofs.reaching.reach_table.row_of.Given as goal

abbrev pub invariant-loop-source : goal.invariant-loop-source
invariant-loop-source l = record {
  long : vec_len l.row ≡ length l.events;
  marks : (i : ℕ) → i < length l.events
      → IsTrue (slice_index_or l.row.items i false) ↔ Reaches l.events l.place l.source i;
}
