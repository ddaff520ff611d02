use Rattle.std.proofs.Common.{ℕ, ◌≡◌, ◌<◌, ◌≤◌, slice_index_or}
use Rattle.explore.proofs.state.kept_state.are_zeros.Given as goal

abbrev pub invariant-loop-word : goal.invariant-loop-word
invariant-loop-word l = record {
  most : (i : ℕ) → i < l.word-index → slice_index_or l.words i 0 ≤ l.greatest;
  none : ((i : ℕ) → slice_index_or l.words i 0 ≡ 0) → l.greatest ≡ 0;
}
