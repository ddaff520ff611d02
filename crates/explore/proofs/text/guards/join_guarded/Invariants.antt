use Rattle.std.proofs.Common.{ℕ, ◌≡◌, ◌⊎◌, IsTrue, false, slice_index_or, vec_len}
use Rattle.explore.proofs.text.guards.join_guarded.Given as goal

abbrev pub invariant-loop-place : goal.invariant-loop-place
invariant-loop-place l = record {
  long : vec_len l.words ≡ vec_len l.fn.words;
  joined : (w : ℕ) → IsTrue (slice_index_or l.words.items w false)
      → IsTrue (slice_index_or l.fn.words.items w false) ⊎ IsTrue (slice_index_or l.others w false);
}
