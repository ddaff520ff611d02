-- Cuts that are moved together, and the stores that stand behind them.
use Rattle.std.specs.Prelude.{ℕ, suc, ◌≡◌, ◌<◌, ◌≤◌, List, Some, length, slice_get, slice_index, vec_len}
use Rattle.std.specs.Global.{Vec}
use Rattle.judge.specs.declared.cut_rows.CutRows.{CutRows}
use Rattle.judge.specs.declared.kept_store.KeptStore.{KeptStore}
use Rattle.judge.specs.declared.moved_cuts.MovedCuts.{MovedCuts}
use Rattle.judge.specs.CutRows.{cut_entry}

-- more cuts, and those that there were as before
pub record KeepsCuts (old new : CutRows) : Type 0 where
  pub more : old.count ≤ new.count
  pub same : (n q : ℕ) → n < old.count → cut_entry new n q ≡ cut_entry old n q

-- cut m of the new ones is cut n of the old ones
pub record IsMovedCut (old new : CutRows) (n m : ℕ) : Type 0 where
  pub within : m < new.count
  pub same : (q : ℕ) → cut_entry new m q ≡ cut_entry old n q

-- of each old cut there is a place, and where it isn't 0 it tells where the cut was moved to
pub record AreMovedCuts (old : CutRows) (x : MovedCuts) : Type 0 where
  pub some : 0 < old.width
  pub width : x.cuts.width ≡ old.width
  pub long : vec_len x.places ≡ old.count
  pub moved : (n m : ℕ) → slice_index x.places.items n ≡ suc m → IsMovedCut old x.cuts n m

-- y is the store x with its cut moved, if that is one of the old ones
pub record IsMovedStore (old new : CutRows) (x y : KeptStore) : Type 0 where
  pub place : y.place ≡ x.place
  pub value : y.value ≡ x.value
  pub cut : x.cut < old.count → IsMovedCut old new x.cut y.cut

-- so are all of these
pub record AreMovedStores (old new : CutRows) (xs ys : List KeptStore) : Type 0 where
  pub long : length ys ≡ length xs
  pub each : (m : ℕ) (x : KeptStore) → slice_get xs m ≡ Some x → (y : KeptStore) × (slice_get ys m ≡ Some y) × IsMovedStore old new x y

-- and of all rows
pub record AreMovedRows (old new : CutRows) (xs ys : List (Vec KeptStore)) : Type 0 where
  pub long : length ys ≡ length xs
  pub each : (n : ℕ) (x : Vec KeptStore) → slice_get xs n ≡ Some x
      → (y : Vec KeptStore) × (slice_get ys n ≡ Some y) × AreMovedStores old new x.items y.items
