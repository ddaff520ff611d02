use Rattle.std.proofs.Common.{◌≢◌, ◌<◌, ℕ, Some, slice_get}
use Rattle.std.specs.Prelude.{◌≡◌}
use Rattle.lrc_explore.proofs.asking.is_among_asked.Given as goal

abbrev pub invariant-loop-other : goal.invariant-loop-other
invariant-loop-other l = (k a : ℕ) → k < l.other-index → slice_get l.shown k ≡ Some a → a ≢ l.address
