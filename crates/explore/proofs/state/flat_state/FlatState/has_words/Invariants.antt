use Rattle.std.proofs.Common.{◌≡◌, ◌<◌, ℕ, Some, slice_get}
use Rattle.explore.proofs.state.flat_state.FlatState.has_words.Given as goal

abbrev pub invariant-loop-address : goal.invariant-loop-address
invariant-loop-address l =
    (k : ℕ) (w : ℕ × ℕ) → k < l.address-index → slice_get l.words k ≡ Some w → slice_get l.self.memory.items w.0 ≡ Some w.1
