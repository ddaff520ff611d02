use Rattle.std.proofs.Common.{◌≡◌, ℕ, ◌<◌, ◌≤◌, Some, slice_get}
use Rattle.std.specs.Global.{Vec}
use Rattle.judge.specs.declared.kept_store.KeptStore.{KeptStore}
use Rattle.judge.specs.MovedCuts.{AreMovedCuts, AreMovedStores}
use Rattle.judge.proofs.moved_cuts.MovedCuts.move_rows.Given as goal

abbrev pub invariant-loop-index : goal.invariant-loop-index
invariant-loop-index l = record {
  moved : AreMovedCuts l.old l.self;
  before : (n : ℕ) (x : Vec KeptStore) → n < l.index → slice_get l.fn.rows n ≡ Some x
      → (y : Vec KeptStore) × (slice_get l.rows n ≡ Some y) × AreMovedStores l.old l.self.cuts x.items y.items;
  behind : (n : ℕ) → l.index ≤ n → slice_get l.rows n ≡ slice_get l.fn.rows n;
}
