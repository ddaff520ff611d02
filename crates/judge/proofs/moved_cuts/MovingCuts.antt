-- Cuts that are moved, and the stores that stand behind them.
use Rattle.std.proofs.Common.{◌≡◌, ℕ, zero, suc, ◌+◌, ◌<◌, inl, inr, List, [], ◌++◌, drop, take, length, Option, Some, slice_get, slice_index, slice_index_or, slice_set, subst, sym, refl, ap, ◌∙◌, arith}
use Rattle.std.specs.Prelude.{None}
use Rattle.std.specs.Global.{Vec}
use Rattle.std.specs.Vec.{with_items}
use Rattle.std.proofs.lemmas.Bool.{cases_eq}
use Rattle.std.proofs.lemmas.List.{get_or-set_same, get_or-set_other}
use Rattle.std.proofs.lemmas.Option.{none-some, same_Some, slice_get-get_or, slice_get_within}
use Rattle.std.proofs.Math.Seq.{take-append_seam}
use Rattle.journal.specs.declared.event.Event.{Event}
use Rattle.journal.specs.declared.event.Kind.TheVariants.{Store}
use Rattle.journal.specs.WellFormed.{Does}
use Rattle.judge.specs.declared.cut_rows.CutRows.{CutRows}
use Rattle.judge.specs.CutRows.{cut_entry}
use Rattle.judge.specs.declared.kept_store.KeptStore.{KeptStore}
use Rattle.judge.specs.declared.sparse_table.SparseTable.{SparseTable}
use Rattle.judge.specs.KeptStores.{AreKeptStores, IsCutBefore, IsKeptStore}
use Rattle.judge.specs.MovedCuts.{AreMovedRows, AreMovedStores, IsMovedCut, IsMovedStore, KeepsCuts}
use Rattle.judge.specs.SparseTables.{sparse_items, sparse_mark, sparse_row, sparse_table_value}

-- nothing changes
pub moving_kept_same : (cuts : CutRows) → KeepsCuts cuts cuts
moving_kept_same cuts = record { more = omega arith; same = λ n q lt. refl }

-- one after the other
pub moving_kept_on : (a b c : CutRows) → KeepsCuts a b → KeepsCuts b c → KeepsCuts a c
moving_kept_on a b c x y = record {
  more = (let m = x.more in let n = y.more in omega arith);
  same = λ n q lt. (let m = x.more in y.same n q (omega arith) ∙ x.same n q lt);
}

-- a moved cut stays where more are moved
pub moving_cut_longer : (old a b : CutRows) (n m : ℕ) → KeepsCuts a b → IsMovedCut old a n m → IsMovedCut old b n m
moving_cut_longer old a b n m more is = record {
  within = (let x = more.more in let w = is.within in omega arith);
  same = λ q. more.same m q is.within ∙ is.same q;
}

pub moving_store_longer : (old a b : CutRows) (x y : KeptStore) → KeepsCuts a b → IsMovedStore old a x y → IsMovedStore old b x y
moving_store_longer old a b x y more is = record {
  place = is.place;
  value = is.value;
  cut = λ within. moving_cut_longer old a b x.cut y.cut more (is.cut within);
}

pub moving_stores_longer : (old a b : CutRows) (xs ys : List KeptStore) → KeepsCuts a b → AreMovedStores old a xs ys
    → AreMovedStores old b xs ys
moving_stores_longer old a b xs ys more are = record {
  long = are.long;
  each = λ m x at. (let y = are.each m x at in (y.0, y.1, moving_store_longer old a b x y.0 more y.2));
}

pub moving_rows_longer : (old a b : CutRows) (xs ys : List (Vec KeptStore)) → KeepsCuts a b → AreMovedRows old a xs ys
    → AreMovedRows old b xs ys
moving_rows_longer old a b xs ys more are = record {
  long = are.long;
  each = λ n x at. (let y = are.each n x at in (y.0, y.1, moving_stores_longer old a b x.items y.0.items more y.2));
}

-- the place of a cut that is moved is told
pub moving_cut_told : (old a b : CutRows) (places : List ℕ) (n : ℕ) → n < length places → KeepsCuts a b → IsMovedCut old b n a.count
    → ((k m : ℕ) → slice_index places k ≡ suc m → IsMovedCut old a k m)
    → (k m : ℕ) → slice_index (slice_set places n (a.count + 1)) k ≡ suc m → IsMovedCut old b k m
moving_cut_told old a b places n within more now before k m told = elim (cases_eq k n) [
  | inl same ↦
      (let here = get_or-set_same places n (a.count + 1) 0 within in
      let one : a.count + 1 ≡ suc m =
      sym here ∙ (sym (ap (slice_index (slice_set places n (a.count + 1))) same) ∙ told) in
      let place : a.count ≡ m = omega arith in
      subst (IsMovedCut old b k) place (subst (λ i. IsMovedCut old b i a.count) (sym same) now))
  | inr isnt ↦
      moving_cut_longer old a b k m more (before k m (sym (get_or-set_other places n k (a.count + 1) 0 isnt) ∙ told))
]

-- a list of other items, as many
pub moving_with_items : {A : Type 0} (v : Vec A) (ws : List A) → length ws ≡ length v.items → (with_items v ws).items ≡ ws
moving_with_items v ws long =
    let same : v.len ≡ length ws = omega (arith, v.ok.0) in
    ap (λ n. take n (ws ++ drop (length ws) v.items)) same ∙ take-append_seam ws (drop (length ws) v.items)

-- ---- what is kept

nothing : KeptStore
nothing = record { place = 0; value = 0; cut = 0 }

-- the store that was moved there
moving_store_at : (old new : CutRows) (xs ys : List KeptStore) (m : ℕ) (y : KeptStore) → AreMovedStores old new xs ys
    → slice_get ys m ≡ Some y → (x : KeptStore) × (slice_get xs m ≡ Some x) × IsMovedStore old new x y
moving_store_at old new xs ys m y are at =
    let long = are.long in
    let lt = slice_get_within ys m y at in
    let x = slice_index_or xs m nothing in
    let there = slice_get-get_or xs m nothing (omega arith) in
    let z = are.each m x there in
    (x, there, subst (IsMovedStore old new x) (same_Some z.0 y (sym z.1 ∙ at)) z.2)

-- a moved store is kept
moving_store_kept : (j : List Event) (old new : CutRows) (a q : ℕ) (x y : KeptStore) → IsKeptStore j old a q x
    → IsMovedStore old new x y → IsKeptStore j new a q y
moving_store_kept j old new a q x y is moved =
    let cut = moved.cut is.within in
    record {
      does = subst (λ i. Does j i q (Store a y.value)) (sym moved.place)
          (subst (λ v. Does j x.place q (Store a v)) (sym moved.value) is.does);
      within = cut.within;
      cut = subst (λ k. IsCutBefore j q k (cut_entry new y.cut)) (sym moved.place) (record {
        covers = λ i e at apart.
            (let same = cut.same e.processor in
            let was = is.cut.covers i e at apart in
            (λ h. (let below = was.0 h in omega arith), λ below. was.1 (omega arith)));
        within = λ r. (let same = cut.same r in let top = is.cut.within r in omega arith);
      });
    }

-- so are those of a row
pub moving_row_kept : (n : ℕ) (j : List Event) (old new : CutRows) (a q : ℕ) (xs ys : List KeptStore)
    → AreMovedStores old new xs ys → AreKeptStores n j old a q xs → AreKeptStores n j new a q ys
moving_row_kept n j old new a q xs ys moved are = record {
  each = λ m y at.
      (let x = moving_store_at old new xs ys m y moved at in
      moving_store_kept j old new a q x.0 y (are.each m x.0 x.1) x.2);
  rising = λ m k y z lt at to.
      (let first = moving_store_at old new xs ys m y moved at in
      let second = moving_store_at old new xs ys k z moved to in
      let before = are.rising m k first.0 second.0 lt first.1 second.1 in
      let one = first.2.place in
      let two = second.2.place in
      omega arith);
  all = λ i lt later.
      (let kept = are.all i lt later in
      let y = moved.each kept.has.0 kept.store kept.has.1 in
      record { store = y.0; has = (kept.has.0, y.1); place = y.2.place ∙ kept.place });
}

-- the rows of a table
pub moving_table_row : (old new : CutRows) (t : SparseTable (Vec KeptStore)) (rows : List (Vec KeptStore)) (r : ℕ)
    → AreMovedRows old new t.kept.items rows
    → AreMovedStores old new (sparse_row t r) (sparse_items (sparse_table_value rows (sparse_mark t.marks.items r)))
moving_table_row old new t rows r are = go (sparse_mark t.marks.items r)
  where
    none : (xs : List KeptStore) → xs ≡ [] → AreMovedStores old new [] xs
    none xs is = record {
      long = ap (λ (zs : List KeptStore). length zs) is;
      each = λ m x at. absurd (none-some x at);
    }

    from : (k : ℕ) (o p : Option (Vec KeptStore)) → slice_get t.kept.items k ≡ o → slice_get rows k ≡ p
        → AreMovedStores old new (sparse_items o) (sparse_items p)
    from k None None at to = none [] refl
    from k None (Some y) at to =
        let long = are.long in
        let lt = slice_get_within rows k y to in
        let x = slice_index_or t.kept.items k y in
        absurd (none-some x (sym at ∙ slice_get-get_or t.kept.items k y (omega arith)))
    from k (Some x) p at to =
        let y = are.each k x at in
        subst (λ o. AreMovedStores old new x.items (sparse_items o)) (sym y.1 ∙ to) y.2

    go : (mark : ℕ) → AreMovedStores old new (sparse_items (sparse_table_value t.kept.items mark)) (sparse_items (sparse_table_value rows mark))
    go zero = none [] refl
    go (suc k) = from k (slice_get t.kept.items k) (slice_get rows k) refl refl
