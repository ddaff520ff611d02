use Rattle.std.proofs.Common.{◌≢◌, ◌<◌, ℕ, Some, slice_get}
use Rattle.std.specs.Prelude.{◌≡◌}
use Rattle.lrc_options.proofs.final_words.final_words_have_address.Given as goal

abbrev pub invariant-loop-other : goal.invariant-loop-other
invariant-loop-other l = (k : ℕ) (w : ℕ × ℕ) → k < l.other-index → slice_get l.words k ≡ Some w → w.0 ≢ l.address
