use Rattle.std.proofs.Common.{◌≡◌, ◌≢◌, ℕ, ◌<◌, ◌≤◌, Some, slice_get}
use Rattle.judge.specs.declared.kept_store.KeptStore.{KeptStore}
use Rattle.judge.proofs.kept_stores.has_kept_store_of.Given as goal

abbrev pub invariant-loop-index : goal.invariant-loop-index
invariant-loop-index l = (m : ℕ) (x : KeptStore) → l.from ≤ m → m < l.index → slice_get l.stores m ≡ Some x → x.value ≢ l.value
