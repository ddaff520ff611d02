-- Stores, row by row, as the history goes on: the rows below place n, with the event at place n, are those below n + 1. A
-- store stands last in the row of its address and processor; any other event, and every other row, changes nothing.
use Rattle.std.proofs.Common.{◌≡◌, ◌≢◌, ℕ, ◌+◌, ◌<◌, ◌≤◌, inl, inr, List, [], ◌∷◌, ◌++◌, Some, length, slice_get, slice_set, subst, sym, ap, ◌∙◌, arith}
use Rattle.std.specs.Global.{Vec}
use Rattle.std.proofs.lemmas.Bool.{cases_eq}
use Rattle.std.proofs.lemmas.Option.{none-some, slice_get_within}
use Rattle.base.proofs.SlicesAndCounts.{slice_push_cases, slice_get-append_left, slice_get-last}
use Rattle.base.proofs.SliceSets.{slice_get-set_found, slice_get-set_other}
use Rattle.base.specs.InOrderOnce.{InOrder}
use Rattle.journal.specs.declared.event.Event.{Event}
use Rattle.journal.specs.declared.event.Kind.TheVariants.{Store}
use Rattle.journal.specs.DidEvent.{event}
use Rattle.journal.specs.Events.{EventAt, event_interval_at, event_closes}
use Rattle.journal.specs.WellFormed.{Does}
use Rattle.journal.proofs.Order.EventPlacesAndCounts.{event_place_same, event_count-mono}
use Rattle.judge.specs.GapTally.{gap_tally_place_of}
use Rattle.causes.specs.declared.store_rows.NumberedStore.{NumberedStore}
use Rattle.causes.specs.declared.store_rows.StoreRows.{StoreRows}
use Rattle.causes.specs.NumberedStores.{AreNumberedStoreRows, AreNumberedStoresBelow, IsNumberedStore}

-- below a further place they are the same
store_row_below : (j : List Event) (a q n : ℕ) (x : NumberedStore) → IsNumberedStore j a q n x
    → IsNumberedStore j a q (n + 1) x
store_row_below j a q n x is = record {
  below = (let lt = is.below in omega arith);
  value = is.value;
  does = is.does;
  interval = is.interval;
}

-- none below the first place
pub store_row_start : (j : List Event) (a q : ℕ) (stores : List NumberedStore) → stores ≡ []
    → AreNumberedStoresBelow j a q 0 stores
store_row_start j a q stores none = subst (AreNumberedStoresBelow j a q 0) (sym none) (record {
  each = λ m x at. absurd (none-some x at);
  rising = λ m n x y lt at to. absurd (none-some x at);
  all = λ i v lt does. absurd (omega arith);
})

-- an event that is not a store of q to a
store_row_others : (j : List Event) (a q n : ℕ) (e : Event) (stores : List NumberedStore) → EventAt j n e
    → ((v : ℕ) → e ≢ event q (Store a v)) → AreNumberedStoresBelow j a q n stores → AreNumberedStoresBelow j a q (n + 1) stores
store_row_others j a q n e stores at away old = record {
  each = λ m x to. store_row_below j a q n x (old.each m x to);
  rising = old.rising;
  all = λ i v lt does. elim (cases_eq i n) [
    | inl is ↦ absurd (away v (event_place_same j n e (event q (Store a v)) at (subst (λ m. Does j m q (Store a v)) is does)))
    | inr isnt ↦ old.all i v (omega arith) does
  ];
}

-- q stores to a at place n, and this is noted of it
pub record IsNotedForStoreRow (j : List Event) (a q n : ℕ) (x : NumberedStore) : Type 0 where
  pub value : ℕ
  pub does : Does j n q (Store a value)
  pub low : q < 16
  pub place : x.place ≡ n
  pub number : x.interval ≡ event_interval_at j q n

-- a store of q to a, with the number of its interval
store_row_next : {j : List Event} {a q n : ℕ} {x : NumberedStore} {stores : List NumberedStore} → IsNotedForStoreRow j a q n x
    → AreNumberedStoresBelow j a q n stores → AreNumberedStoresBelow j a q (n + 1) (stores ++ x ∷ [])
store_row_next {j} {a} {q} {n} {x} {stores} noted old = record { each = each; rising = rising; all = all }
  where
    now : IsNumberedStore j a q (n + 1) x
    now = record {
      below = (let place = noted.place in omega arith);
      value = noted.value;
      does = subst (λ m. Does j m q (Store a noted.value)) (sym noted.place) noted.does;
      interval = noted.number ∙ ap (event_interval_at j q) (sym noted.place);
    }

    each : (m : ℕ) (y : NumberedStore) → slice_get (stores ++ x ∷ []) m ≡ Some y → IsNumberedStore j a q (n + 1) y
    each m y to = elim (slice_push_cases stores x m y to) [
      | inl was ↦ store_row_below j a q n y (old.each m y was.1)
      | inr new ↦ subst (IsNumberedStore j a q (n + 1)) new.1 now
    ]

    rising : InOrder (λ (y z : NumberedStore). y.place < z.place) (stores ++ x ∷ [])
    rising k m y z lt to end = elim (slice_push_cases stores x m z end) [
      | inl was ↦
          (let inside = was.0 in
          old.rising k m y z lt (sym (slice_get-append_left stores (x ∷ []) k (omega arith)) ∙ to) was.1)
      | inr new ↦
          (let last = new.0 in
          let under = (old.each k y (sym (slice_get-append_left stores (x ∷ []) k (omega arith)) ∙ to)).below in
          let same = ap (λ (w : NumberedStore). w.place) new.1 in
          let place = noted.place in
          omega arith)
    ]

    all : (i w : ℕ) → i < n + 1 → Does j i q (Store a w)
        → (m : ℕ) × (y : NumberedStore) × (slice_get (stores ++ x ∷ []) m ≡ Some y) × (y.place ≡ i)
    all i w lt to = elim (cases_eq i n) [
      | inl is ↦ (let place = noted.place in (length stores, x, slice_get-last stores x, omega arith))
      | inr isnt ↦
          (let z = old.all i w (omega arith) to in
          (z.0, z.1, slice_get-append_left stores (x ∷ []) z.0 (slice_get_within stores z.0 z.1 z.2) ∙ z.2, z.3))
    ]

-- the rows, with an event that is no store
pub store_rows_quiet : (j : List Event) (n : ℕ) (e : Event) (x : StoreRows) → EventAt j n e
    → ((a v : ℕ) → e.kind ≢ Store a v) → AreNumberedStoreRows j n x → AreNumberedStoreRows j (n + 1) x
store_rows_quiet j n e x at quiet old = record {
  long = old.long;
  each = λ a q row low to.
      store_row_others j a q n e row.items at (λ v is. quiet a v (ap (λ (y : Event). y.kind) is))
      (old.each a q row low to);
}

-- where two rows are one, so are address and processor
pub store_row_same : (a q b p : ℕ) → q < 16 → p < 16 → gap_tally_place_of a q ≡ gap_tally_place_of b p → (a ≡ b) × (q ≡ p)
store_row_same a q b p lt to is = (omega arith, omega arith)

-- the new rows have y behind the row of this index
pub record AreStoreRowsWith (rows new : List (Vec NumberedStore)) (index : ℕ) (y : NumberedStore) : Type 0 where
  pub row : Vec NumberedStore
  pub there : slice_get rows index ≡ Some row
  pub longer : Vec NumberedStore
  pub items : longer.items ≡ row.items ++ y ∷ []
  pub rows_are : new ≡ slice_set rows index longer

-- and with a store
pub store_rows_stored : {j : List Event} {a p n : ℕ} {y : NumberedStore} {x : StoreRows} {rows : List (Vec NumberedStore)}
    → IsNotedForStoreRow j a p n y → AreStoreRowsWith x.rows.items rows (gap_tally_place_of a p) y → AreNumberedStoreRows j n x
    → (b q : ℕ) (other : Vec NumberedStore) → q < 16 → slice_get rows (gap_tally_place_of b q) ≡ Some other
    → AreNumberedStoresBelow j b q (n + 1) other.items
store_rows_stored {j} {a} {p} {n} {y} {x} {rows} noted push old b q other lt to =
    elim (cases_eq (gap_tally_place_of b q) (gap_tally_place_of a p)) [
      | inl same ↦
          (let both = store_row_same b q a p lt noted.low same in
          let one : push.longer ≡ other =
          slice_get-set_found x.rows.items (gap_tally_place_of a p) push.longer other
          (subst (λ m. slice_get (slice_set x.rows.items (gap_tally_place_of a p) push.longer) m ≡ Some other) same moved) in
          let now : AreNumberedStoresBelow j a p (n + 1) push.longer.items =
          subst (AreNumberedStoresBelow j a p (n + 1)) (sym push.items)
          (store_row_next noted (old.each a p push.row noted.low push.there)) in
          subst (λ (w : Vec NumberedStore). AreNumberedStoresBelow j b q (n + 1) w.items) one
          (subst (λ r. AreNumberedStoresBelow j b r (n + 1) push.longer.items) (sym both.1)
          (subst (λ c. AreNumberedStoresBelow j c p (n + 1) push.longer.items) (sym both.0) now)))
      | inr isnt ↦
          store_row_others j b q n (event p (Store a noted.value)) other.items noted.does (λ w same. isnt (apart w same))
          (old.each b q other lt
          (sym (slice_get-set_other x.rows.items (gap_tally_place_of a p) (gap_tally_place_of b q) push.longer isnt) ∙ moved))
    ]
  where
    moved : slice_get (slice_set x.rows.items (gap_tally_place_of a p) push.longer) (gap_tally_place_of b q) ≡ Some other
    moved = subst (λ xs. slice_get xs (gap_tally_place_of b q) ≡ Some other) push.rows_are to

    address : (c w d z : ℕ) → Store c w ≡ Store d z → c ≡ d
    address c w d z same = cc

    apart : (w : ℕ) → event p (Store a noted.value) ≡ event q (Store b w)
        → gap_tally_place_of b q ≡ gap_tally_place_of a p
    apart w same =
        let by : p ≡ q = ap (λ (f : Event). f.processor) same in
        let to_a = address a noted.value b w (ap (λ (f : Event). f.kind) same) in
        omega arith

-- of rising stores the intervals do not fall
pub store_row_intervals_rise : (j : List Event) (a q n : ℕ) (stores : List NumberedStore) → AreNumberedStoresBelow j a q n stores
    → InOrder (λ (x y : NumberedStore). x.interval ≤ y.interval) stores
store_row_intervals_rise j a q n stores are k m x y lt at to =
    let rise = are.rising k m x y lt at to in
    let one = (are.each k x at).interval in
    let two = (are.each m y to).interval in
    let up = event_count-mono event_closes j x.place y.place q (omega arith) in
    omega arith
