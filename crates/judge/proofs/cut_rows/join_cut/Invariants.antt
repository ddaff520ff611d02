use Rattle.std.proofs.Common.{◌≡◌, ℕ, ◌+◌, ◌<◌, ◌≤◌, max, slice_index}
use Rattle.judge.proofs.cut_rows.join_cut.Given as goal

abbrev pub invariant-loop-q : goal.invariant-loop-q
invariant-loop-q l = record {
  joined : (k : ℕ) → k < l.q → slice_index l.entries (l.first + k)
      ≡ max (slice_index l.fn.entries (l.first + k)) (slice_index l.cut k);
  before : (k : ℕ) → k < l.first → slice_index l.entries k ≡ slice_index l.fn.entries k;
  behind : (k : ℕ) → l.first + l.q ≤ k → slice_index l.entries k ≡ slice_index l.fn.entries k;
}
