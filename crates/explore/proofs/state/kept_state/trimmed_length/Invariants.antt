use Rattle.std.proofs.Common.{ℕ, ◌≡◌, ◌≤◌, length, slice_index_or}
use Rattle.explore.proofs.state.kept_state.trimmed_length.Given as goal

abbrev pub invariant-loop-length : goal.invariant-loop-length
invariant-loop-length l = record {
  within : l.length ≤ length l.words;
  zeros : (i : ℕ) → l.length ≤ i → slice_index_or l.words i 0 ≡ 0;
}

abbrev pub decreases-loop-length : goal.decreases-loop-length
decreases-loop-length l = l.length
