-- The stores that are kept, as the history goes on.
use Rattle.std.proofs.Common.{◌≡◌, ◌≢◌, ℕ, ◌<◌, inl, inr, List, [], ◌∷◌, ◌++◌, length, Some, slice_get, subst, sym, refl, ap, ◌∙◌, arith, length-append, append_assoc}
use Rattle.std.specs.Prelude.{None}
use Rattle.std.specs.Global.{Vec}
use Rattle.std.proofs.lemmas.Bool.{cases_eq, cases_lt}
use Rattle.std.proofs.lemmas.Option.{none-some, slice_get_within}
use Rattle.base.specs.InOrderOnce.{InOrder}
use Rattle.base.proofs.SlicesAndCounts.{slice_push_cases, slice_get-append_left, slice_get-last}
use Rattle.journal.specs.declared.event.Event.{Event}
use Rattle.journal.specs.declared.event.Kind.TheVariants.{Store}
use Rattle.journal.specs.DidEvent.{did, event}
use Rattle.journal.specs.EventsInRange.{EventProcessorsInRange}
use Rattle.journal.specs.WellFormed.{Does}
use Rattle.journal.proofs.Order.EventPlacesAndCounts.{event_place_inside, event_place_longer, event_place_shorter, event_place_at_end}
use Rattle.journal.proofs.Order.HappensBefore.{happens_before_goes_forward, happens_before_extension}
use Rattle.judge.specs.declared.cut_rows.CutRows.{CutRows}
use Rattle.judge.specs.CutRows.{cut_entry}
use Rattle.judge.specs.declared.kept_store.KeptStore.{KeptStore}
use Rattle.judge.specs.declared.sparse_table.SparseTable.{SparseTable}
use Rattle.judge.specs.Cuts.{IsCutOf}
use Rattle.judge.specs.KeptStores.{AreKeptStores, HasKeptStoreAt, IsCutBefore, IsKeptStore, kept_store_row}
use Rattle.judge.specs.SparseTables.{IsSparseRowWith, sparse_at, sparse_items, sparse_row}
use Rattle.judge.specs.StoresInPasts.{MayBeAnsweredLater}
use Rattle.judge.proofs.NearestRaceSteps.{nearest_race_row_one}
use Rattle.judge.proofs.TellingCuts.{cut_tells_happens_before}
use Rattle.judge.specs.MovedCuts.{KeepsCuts}

-- ---- what may be answered later

-- after one event more it was so before that
pub keeping_later_shorter : (n : ℕ) (j : List Event) (e : Event) (a q i : ℕ) → MayBeAnsweredLater n (j ++ e ∷ []) a q i
    → MayBeAnsweredLater n j a q i
keeping_later_shorter n j e a q i x =
    let joined = append_assoc j (e ∷ []) x.more in
    record {
      more = e ∷ x.more;
      by = x.by;
      present = x.present;
      range = subst (EventProcessorsInRange n) joined x.range;
      may = elim x.may [
        | inl l ↦ inl (rw joined at l)
        | inr o ↦ inr (rw joined at o)
      ];
    }

-- it is a store of the history
pub keeping_later_does : {n : ℕ} {j : List Event} {a q i : ℕ} → i < length j → MayBeAnsweredLater n j a q i
    → (v : ℕ) × Does j i q (Store a v)
keeping_later_does {j = j} {a = a} {q = q} {i = i} lt x = elim x.may [
  | inl l ↦ (l.value, event_place_shorter j x.more i (event q (Store a l.value)) lt l.does)
  | inr o ↦ (o.value, event_place_shorter j x.more i (event q (Store a o.value)) lt o.does)
]

-- ---- a kept store

-- a cut before a place stays
pub keeping_cut_before_longer : (j : List Event) (e : Event) (q k : ℕ) (t : ℕ → ℕ) → k < length j → IsCutBefore j q k t
    → IsCutBefore (j ++ e ∷ []) q k t
keeping_cut_before_longer j e q k t lt is = record {
  covers = λ i f at apart. elim (slice_push_cases j e i f at) [
    | inl old ↦
        (let same = happens_before_extension j (e ∷ []) i k lt in
        let was = is.covers i f old.1 apart in
        (λ h. was.0 (same.0 h), λ below. same.1 (was.1 below)))
    | inr new ↦
        (let top = is.within f.processor in
        let here = new.0 in
        (λ h. (let forth = happens_before_goes_forward (j ++ e ∷ []) h in absurd (omega arith)), λ below. absurd (omega arith)))
  ];
  within = is.within;
}

-- a store stays
pub keeping_store_longer : (j : List Event) (e : Event) (cuts : CutRows) (a q : ℕ) (x : KeptStore) → IsKeptStore j cuts a q x
    → IsKeptStore (j ++ e ∷ []) cuts a q x
keeping_store_longer j e cuts a q x is = record {
  does = event_place_longer j (e ∷ []) x.place (event q (Store a x.value)) is.does;
  within = is.within;
  cut = keeping_cut_before_longer j e q x.place (cut_entry cuts x.cut) (event_place_inside j x.place (event q (Store a x.value)) is.does)
      is.cut;
}

-- and under more cuts
pub keeping_store_more : (j : List Event) (old new : CutRows) (a q : ℕ) (x : KeptStore) → KeepsCuts old new
    → IsKeptStore j old a q x → IsKeptStore j new a q x
keeping_store_more j old new a q x more is = record {
  does = is.does;
  within = (let m = more.more in let w = is.within in omega arith);
  cut = record {
    covers = λ i e at apart.
        (let same = more.same x.cut e.processor is.within in
        let was = is.cut.covers i e at apart in
        (λ h. (let below = was.0 h in omega arith), λ below. was.1 (omega arith)));
    within = λ r. (let same = more.same x.cut r is.within in let top = is.cut.within r in omega arith);
  };
}

-- one that comes next is kept with its processor's cut
pub keeping_store_now : (j : List Event) (cuts : CutRows) (a q : ℕ) (x : KeptStore) → x.place ≡ length j → x.cut < cuts.count
    → IsCutOf j q (cut_entry cuts x.cut) → IsKeptStore (did j q (Store a x.value)) cuts a q x
keeping_store_now j cuts a q x place within cut = record {
  does = subst (λ n. Does (did j q (Store a x.value)) n q (Store a x.value)) (sym place) (event_place_at_end j e);
  within = within;
  cut = subst (λ n. IsCutBefore (did j q (Store a x.value)) q n (cut_entry cuts x.cut)) (sym place) (record {
    covers = λ i f at apart. elim (slice_push_cases j e i f at) [
      | inl old ↦ cut_tells_happens_before e cut refl old.1 apart
      | inr new ↦ absurd (apart (ap (λ (z : Event). z.processor) (sym new.1)))
    ];
    within = cut.within;
  });
}
  where
    e : Event
    e = event q (Store a x.value)

-- ---- the stores of a row

pub keeping_row_more : (n : ℕ) (j : List Event) (old new : CutRows) (a q : ℕ) (stores : List KeptStore) → KeepsCuts old new
    → AreKeptStores n j old a q stores → AreKeptStores n j new a q stores
keeping_row_more n j old new a q stores more are = record {
  each = λ m x at. keeping_store_more j old new a q x more (are.each m x at);
  rising = are.rising;
  all = are.all;
}

-- any event but one more store leaves them
pub keeping_row_others : (n : ℕ) (j : List Event) (e : Event) (cuts : CutRows) (a q : ℕ) (stores : List KeptStore)
    → ((v : ℕ) → e ≢ event q (Store a v)) → AreKeptStores n j cuts a q stores → AreKeptStores n (j ++ e ∷ []) cuts a q stores
keeping_row_others n j e cuts a q stores away are = record {
  each = λ m x at. keeping_store_longer j e cuts a q x (are.each m x at);
  rising = are.rising;
  all = λ i lt later. elim (cases_lt i (length j)) [
    | inl below ↦ are.all i below (keeping_later_shorter n j e a q i later)
    | inr le ↦
        (let does = keeping_later_does lt later in
        elim (slice_push_cases j e i (event q (Store a does.0)) does.1) [
          | inl old ↦ (let within = old.0 in absurd (omega arith))
          | inr new ↦ absurd (away does.0 new.1)
        ])
  ];
}

-- a store that comes next is one more
pub keeping_row_next : (n : ℕ) (j : List Event) (cuts : CutRows) (a q : ℕ) (stores : List KeptStore) (x : KeptStore)
    → x.place ≡ length j → x.cut < cuts.count → IsCutOf j q (cut_entry cuts x.cut) → AreKeptStores n j cuts a q stores
    → AreKeptStores n (did j q (Store a x.value)) cuts a q (stores ++ x ∷ [])
keeping_row_next n j cuts a q stores x place within cut are = record { each = each; rising = rising; all = all }
  where
    e : Event
    e = event q (Store a x.value)

    each : (m : ℕ) (y : KeptStore) → slice_get (stores ++ x ∷ []) m ≡ Some y → IsKeptStore (did j q (Store a x.value)) cuts a q y
    each m y at = elim (slice_push_cases stores x m y at) [
      | inl old ↦ keeping_store_longer j e cuts a q y (are.each m y old.1)
      | inr new ↦ subst (IsKeptStore (did j q (Store a x.value)) cuts a q) new.1 (keeping_store_now j cuts a q x place within cut)
    ]

    rising : InOrder (λ (y z : KeptStore). y.place < z.place) (stores ++ x ∷ [])
    rising m k y z lt at to = elim (slice_push_cases stores x k z to) [
      | inl old ↦ elim (slice_push_cases stores x m y at) [
        | inl first ↦ are.rising m k y z lt first.1 old.1
        | inr new ↦ absurd (omega (arith, old.0, new.0, lt))
      ]
      | inr new ↦ elim (slice_push_cases stores x m y at) [
        | inl first ↦
            (let inside = event_place_inside j y.place (event q (Store a y.value)) (are.each m y first.1).does in
            let same = ap (λ (s : KeptStore). s.place) new.1 in
            omega arith)
        | inr later ↦ absurd (omega (arith, later.0, new.0, lt))
      ]
    ]

    all : (i : ℕ) → i < length (did j q (Store a x.value)) → MayBeAnsweredLater n (did j q (Store a x.value)) a q i
        → HasKeptStoreAt (stores ++ x ∷ []) i
    all i lt later = elim (cases_lt i (length j)) [
      | inl below ↦
          (let old = are.all i below (keeping_later_shorter n j e a q i later) in
          let m = old.has.0 in
          record {
            store = old.store;
            has = (m, slice_get-append_left stores (x ∷ []) m (slice_get_within stores m old.store old.has.1) ∙ old.has.1);
            place = old.place;
          })
      | inr le ↦
          (let long = length-append j (e ∷ []) in
          record { store = x; has = (length stores, slice_get-last stores x); place = (let is = place in omega arith) })
    ]

-- the rows of stores, of which each has those of a processor to an address
abbrev pub AreKeptRows : ℕ → List Event → CutRows → SparseTable (Vec KeptStore) → Type 0
AreKeptRows n j cuts rows = (a q : ℕ) → q < n → AreKeptStores n j cuts a q (sparse_row rows (kept_store_row n a q))

-- an event that is no store leaves them
pub keeping_rows_others : (n : ℕ) (j : List Event) (e : Event) (cuts : CutRows) (rows : SparseTable (Vec KeptStore))
    → ((a v : ℕ) → e.kind ≢ Store a v) → AreKeptRows n j cuts rows → AreKeptRows n (j ++ e ∷ []) cuts rows
keeping_rows_others n j e cuts rows away are a q lt =
    keeping_row_others n j e cuts a q (sparse_row rows (kept_store_row n a q))
    (λ v is. away a v (ap (λ (x : Event). x.kind) is)) (are a q lt)

keeping_rows_store_same : (a b v w p q : ℕ) → event p (Store a v) ≡ event q (Store b w) → (a ≡ b) × (p ≡ q)
keeping_rows_store_same a b v w p q is =
    let kind = ap (λ (x : Event). x.kind) is in (cc, ap (λ (x : Event). x.processor) is)

-- a store that comes next is one more of its row
pub keeping_rows_next : {n : ℕ} {j : List Event} (old new : CutRows) {before after : SparseTable (Vec KeptStore)} (a p : ℕ)
    {x : KeptStore} → KeepsCuts old new → p < n → IsSparseRowWith before after (kept_store_row n a p) x
    → x.place ≡ length j → x.cut < new.count → IsCutOf j p (cut_entry new x.cut) → AreKeptRows n j old before
    → AreKeptRows n (did j p (Store a x.value)) new after
keeping_rows_next {n = n} {j = j} old new {before = before} {after = after} a p {x = x} more few written place within cut are b q lt =
    elim (cases_eq (kept_store_row n b q) (kept_store_row n a p)) [
      | inl same ↦ here same
      | inr other ↦ kept other
    ]
  where
    now : List Event
    now = did j p (Store a x.value)

    here : kept_store_row n b q ≡ kept_store_row n a p → AreKeptStores n now new b q (sparse_row after (kept_store_row n b q))
    here same =
        let both = nearest_race_row_one n a b p q few lt same in
        let was = sparse_row before (kept_store_row n a p) in
        let next =
        keeping_row_next n j new a p was x place within cut (keeping_row_more n j old new a p was more (are a p few)) in
        subst (λ y. AreKeptStores n now new y q (sparse_row after (kept_store_row n y q))) both.0
        (subst (λ y. AreKeptStores n now new a y (sparse_row after (kept_store_row n a y))) both.1
        (subst (AreKeptStores n now new a p) (sym written.now) next))

    kept : kept_store_row n b q ≢ kept_store_row n a p → AreKeptStores n now new b q (sparse_row after (kept_store_row n b q))
    kept other =
        let was = sparse_row before (kept_store_row n b q) in
        subst (AreKeptStores n now new b q) (sym (written.others (kept_store_row n b q) other))
        (keeping_row_others n j (event p (Store a x.value)) new b q was
        (λ w is. (let same = keeping_rows_store_same a b x.value w p q is in other (rw (same.0, same.1) refl)))
        (keeping_row_more n j old new b q was more (are b q lt)))

-- before the first event there is no store
pub keeping_rows_first : (n : ℕ) (cuts : CutRows) (rows : SparseTable (Vec KeptStore)) → ((r : ℕ) → sparse_at rows r ≡ None)
    → AreKeptRows n [] cuts rows
keeping_rows_first n cuts rows empty a q lt =
    subst (AreKeptStores n [] cuts a q) (sym (ap sparse_items (empty (kept_store_row n a q)))) (record {
      each = λ m x at. absurd (none-some x at);
      rising = λ m k x y below at to. absurd (none-some x at);
      all = λ i below later. absurd (omega arith);
    })
