use Rattle.std.proofs.Common.{◌≡◌, ℕ, ◌<◌, slice_index, slice_set}
use Rattle.judge.proofs.known_cuts.is_cut_without.Given as goal

abbrev pub invariant-loop-q : goal.invariant-loop-q
invariant-loop-q l = (r : ℕ) → r < l.q → slice_index l.kept r ≡ slice_index (slice_set l.cut l.processor 0) r
