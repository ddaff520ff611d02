use Rattle.std.proofs.Common.{◌≡◌, ℕ, ◌<◌, ◌≤◌, max, length, slice_index}
use Rattle.journal.proofs.clock.join.Given as goal

abbrev pub invariant-loop-q : goal.invariant-loop-q
invariant-loop-q l =
    (length l.joined ≡ 16)
    × ((k : ℕ) → k < l.q → slice_index l.joined k ≡ max (slice_index l.clock k) (slice_index l.other k))
    × ((k : ℕ) → l.q ≤ k → slice_index l.joined k ≡ slice_index l.other k)
