use Rattle.std.proofs.Common.{◌≡◌, ℕ, ◌<◌, ◌≤◌, Some, slice_get}
use Rattle.judge.specs.declared.kept_store.KeptStore.{KeptStore}
use Rattle.judge.specs.MovedCuts.{AreMovedCuts, IsMovedStore, KeepsCuts}
use Rattle.judge.proofs.moved_cuts.MovedCuts.move_stores.Given as goal

abbrev pub invariant-loop-index : goal.invariant-loop-index
invariant-loop-index l = record {
  more : KeepsCuts l.fn.self.cuts l.self.cuts;
  moved : AreMovedCuts l.old l.self;
  before : (m : ℕ) (x : KeptStore) → m < l.index → slice_get l.fn.stores m ≡ Some x
      → (y : KeptStore) × (slice_get l.stores m ≡ Some y) × IsMovedStore l.old l.self.cuts x y;
  behind : (m : ℕ) → l.index ≤ m → slice_get l.stores m ≡ slice_get l.fn.stores m;
}
