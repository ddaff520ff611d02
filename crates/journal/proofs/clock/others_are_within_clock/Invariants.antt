use Rattle.std.proofs.Common.{◌≤◌, ◌≢◌, ℕ, ◌<◌, ◌↔◌, IsTrue, slice_index}
use Rattle.journal.proofs.clock.others_are_within_clock.Given as goal

abbrev pub invariant-loop-q : goal.invariant-loop-q
invariant-loop-q l =
    IsTrue l.within ↔ ((k : ℕ) → k < l.q → k ≢ l.processor → slice_index l.clock k ≤ slice_index l.other k)
