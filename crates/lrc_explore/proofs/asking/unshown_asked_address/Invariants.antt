use Rattle.std.proofs.Common.{◌≡◌, ◌<◌, ℕ, Some, slice_get}
use Rattle.base.specs.InOrderOnce.{Has}
use Rattle.lrc_explore.proofs.asking.unshown_asked_address.Given as goal

abbrev pub invariant-loop-address : goal.invariant-loop-address
invariant-loop-address l = (k : ℕ) (w : ℕ × ℕ) → k < l.address-index → slice_get l.words k ≡ Some w → Has l.shown w.0
