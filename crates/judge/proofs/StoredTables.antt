-- What is kept of all pages and processors, after one more event.
use Rattle.std.proofs.Common.{ℕ, ◌≡◌, ◌≢◌, ◌+◌, ◌-◌, ◌/◌, ◌==◌, ◌<◌, ◌≤◌, ◌↔◌, ◌&&◌, inl, inr, cond, Bool, true, false, List, [], ◌∷◌, ◌++◌, length, vec_len, slice_index, refl, sym, ap, ◌∙◌, subst, arith}
use Rattle.std.specs.Global.{Vec}
use Rattle.std.proofs.lemmas.Bool.{cases_eq}
use Rattle.journal.specs.declared.event.Event.{Event}
use Rattle.journal.specs.declared.event.Kind.TheVariants.{Store}
use Rattle.journal.specs.DidEvent.{did, event}
use Rattle.journal.specs.Sizes.{Sizes}
use Rattle.journal.specs.Events.{event_count, event_closes}
use Rattle.journal.proofs.Order.EventPlacesAndCounts.{event_count-append}
use Rattle.judge.specs.declared.sparse_table.SparseTable.{SparseTable}
use Rattle.judge.specs.declared.stored_counts.StoredCounts.{StoredCounts}
use Rattle.judge.specs.declared.stored_steps.StoredStep.{StoredStep}
use Rattle.judge.specs.declared.stored_steps.StoredTotal.{StoredTotal}
use Rattle.judge.specs.FetchGaps.{FetchGapStoreAt}
use Rattle.judge.specs.GapTally.{IsGapTallyMark, gap_tally_mark_in}
use Rattle.judge.specs.JudgedSizes.{judged_sizes_of}
use Rattle.judge.specs.SparseTables.{IsSparse, IsSparseWith, sparse_at, sparse_room, sparse_row}
use Rattle.judge.specs.StoredCounts.{AreStoredCountsOf, StoredStepAdds, stored_row}
use Rattle.judge.specs.StoredSteps.{AreStoredSteps, stored_total, stored_total_next}
use Rattle.judge.proofs.GapEvents.{gap_event_store_bound, gap_event_store_next, gap_event_store_others}
use Rattle.judge.proofs.LongerSparseTables.{longer_sparse_next, longer_sparse_same}
use Rattle.judge.proofs.NearestRaceSteps.{nearest_race_row_one}
use Rattle.judge.proofs.StoredNext.{IsStoredSame, StoredRowAdds, stored_next_mark_same, stored_next_no_store, stored_next_same, stored_next_store}

-- ---- what closes

and_true : (a b : Bool) → b ≡ true → ◌≡◌ {A = ℕ} (cond (a && b) 1 0) (cond a 1 0)
and_true true b is = ap (λ x. cond x 1 0) is
and_true false b is = refl

and_false : (a b : Bool) → b ≡ false → ◌≡◌ {A = ℕ} (cond (a && b) 1 0) 0
and_false true b is = ap (λ x. cond x 1 0) is
and_false false b is = refl

-- an event counts for its processor, if it closes
pub stored_tables_closes : (j : List Event) (e : Event) (q : ℕ) → event_closes e.kind ≡ true
    → event_count event_closes (j ++ e ∷ []) q ≡ event_count event_closes j q + cond (e.processor == q) 1 0
stored_tables_closes j e q closes =
    let sum = event_count-append event_closes j (e ∷ []) q in
    let one = and_true (e.processor == q) (event_closes e.kind) closes in
    omega (arith, sum, one)

pub stored_tables_inner : (j : List Event) (e : Event) (q : ℕ) → event_closes e.kind ≡ false
    → event_count event_closes (j ++ e ∷ []) q ≡ event_count event_closes j q
stored_tables_inner j e q inner =
    let sum = event_count-append event_closes j (e ∷ []) q in
    let none = and_false (e.processor == q) (event_closes e.kind) inner in
    omega (arith, sum, none)

-- ---- an event that is no store

pub stored_tables_others : (j : List Event) (e : Event) (c : StoredCounts) (closed : Vec ℕ) → vec_len closed ≡ c.sizes.processors
    → ((q a v : ℕ) → e ≢ event q (Store a v)) → ((q : ℕ) → q < c.sizes.processors → slice_index closed.items q ≡ event_count event_closes (j ++ e ∷ []) q) → AreStoredCountsOf j c
    → AreStoredCountsOf (j ++ e ∷ []) (record c { closed = closed })
stored_tables_others j e c closed long none counted is = record {
  sizes = is.sizes;
  long = long;
  closed = counted;
  pages = λ n q lt. stored_next_same e (stored_next_no_store (judged_sizes_of c.sizes) j e n q (λ a v same _. none q a v same))
      (is.pages n q lt);
  words = λ a q lt. stored_next_mark_same (FetchGapStoreAt j a q) (FetchGapStoreAt (j ++ e ∷ []) a q)
      (gap_tally_mark_in (sparse_at c.words (stored_row c.sizes.processors a q))) (gap_event_store_others j e none a q)
      (is.words a q lt);
  steps_sparse = longer_sparse_same j e c.steps is.steps_sparse;
  totals_sparse = longer_sparse_same j e c.totals is.totals_sparse;
  words_sparse = longer_sparse_same j e c.words is.words_sparse;
}

-- ---- a store

-- a store of another page or processor
not_there : (s : Sizes) (n q a w m r : ℕ) → ((m ≡ a / s.words) × (r ≡ q) → ⊥)
    → (b v : ℕ) → event q (Store a w) ≡ event r (Store b v) → b / s.words ≢ m
not_there s n q a w m r apart b v is page =
    let kind = ap (λ (e : Event). e.kind) is in
    let kinds : Store a w ≡ Store b v = kind in
    let address : a ≡ b = cc in
    apart (sym page ∙ ap (λ x. x / s.words) (sym address), sym (ap (λ (e : Event). e.processor) is))

-- where the word was stored to in the interval, all stays
pub stored_tables_stored : (j : List Event) (c : StoredCounts) (q a w : ℕ) → FetchGapStoreAt j a q (event_count event_closes j q)
    → AreStoredCountsOf j c → AreStoredCountsOf (did j q (Store a w)) c
stored_tables_stored j c q a w was is = record {
  sizes = is.sizes;
  long = is.long;
  closed = λ r lt. is.closed r lt ∙ sym (stored_tables_inner j e r refl);
  pages = λ n r lt. stored_next_same e (same n r) (is.pages n r lt);
  words = λ b r lt. stored_next_mark_same (FetchGapStoreAt j b r) (FetchGapStoreAt (j ++ e ∷ []) b r)
      (gap_tally_mark_in (sparse_at c.words (stored_row c.sizes.processors b r))) (stored b r) (is.words b r lt);
  steps_sparse = longer_sparse_same j e c.steps is.steps_sparse;
  totals_sparse = longer_sparse_same j e c.totals is.totals_sparse;
  words_sparse = longer_sparse_same j e c.words is.words_sparse;
}
  where
    s : Sizes
    s = judged_sizes_of c.sizes

    e : Event
    e = event q (Store a w)

    stored : (b r k : ℕ) → FetchGapStoreAt j b r k ↔ FetchGapStoreAt (j ++ e ∷ []) b r k
    stored b r k =
        let one = gap_event_store_next j q a w in (
          one.same b r k,
          λ h. elim (one.others b r k h) [
            | inl old ↦ old
            | inr new ↦ subst (λ x. FetchGapStoreAt j x r k) (sym new.0) (subst (λ x. FetchGapStoreAt j a x k) (sym new.1)
                (subst (FetchGapStoreAt j a q) (sym new.2) was))
          ],
        )

    same : (n r : ℕ) → IsStoredSame s j e n r
    same n r x = (λ h. ((stored x.1 r x.0).0 h.0, h.1), λ h. ((stored x.1 r x.0).1 h.0, h.1))

-- a table was written in this row
pub record IsStoredWritten {A : Type 0} (old new : SparseTable A) (row : ℕ) (value : A) : Type 0 where
  pub is : IsSparseWith old new row value
  pub room : sparse_room new ≡ sparse_room old
  pub more : vec_len new.kept ≤ vec_len old.kept + 1

-- a step was kept in this row, if it was to be
pub record IsStoredStepKept (old new : SparseTable (Vec StoredStep)) (row place : ℕ) (total : StoredTotal) (interval : ℕ) : Type 0 where
  pub adds : StoredStepAdds old new row place total interval
  pub room : sparse_room new ≡ sparse_room old
  pub more : vec_len new.kept ≤ vec_len old.kept + 1

step_row : {old new : SparseTable (Vec StoredStep)} {row place interval : ℕ} {total : StoredTotal}
    → StoredStepAdds old new row place total interval
    → StoredRowAdds (sparse_row old row) (sparse_row new row) place total interval
step_row {row = row} adds = elim adds [
  | inl new ↦ inl (new.0, new.1.now)
  | inr same ↦ inr (same.0, ap (λ t. sparse_row t row) same.1)
]

step_others : {old new : SparseTable (Vec StoredStep)} {row place interval : ℕ} {total : StoredTotal} (r : ℕ) → r ≢ row
    → StoredStepAdds old new row place total interval → sparse_row new r ≡ sparse_row old r
step_others r apart adds = elim adds [
  | inl new ↦ new.1.others r apart
  | inr same ↦ ap (λ t. sparse_row t r) same.1
]

step_sparse : {old new : SparseTable (Vec StoredStep)} {row place interval : ℕ} {total : StoredTotal} → IsSparse old
    → StoredStepAdds old new row place total interval → IsSparse new
step_sparse sparse adds = elim adds [ inl new ↦ new.1.sparse | inr same ↦ subst IsSparse (sym same.1) sparse ]

-- the first one of its interval to this address, by its processor's row of its page, and its word's
pub stored_tables_store : {j : List Event} {c : StoredCounts} {q a place : ℕ} {steps : SparseTable (Vec StoredStep)}
    {totals : SparseTable StoredTotal} {words : SparseTable ℕ} → (w : ℕ) → q < c.sizes.processors
    → ¬ FetchGapStoreAt j a q (event_count event_closes j q) → length j ≡ place
    → IsStoredStepKept c.steps steps (stored_row c.sizes.processors (a / c.sizes.words) q) place
    (stored_total (sparse_at c.totals (stored_row c.sizes.processors (a / c.sizes.words) q))) (event_count event_closes j q)
    → IsStoredWritten c.totals totals (stored_row c.sizes.processors (a / c.sizes.words) q)
    (stored_total_next (stored_total (sparse_at c.totals (stored_row c.sizes.processors (a / c.sizes.words) q))) (event_count event_closes j q))
    → IsStoredWritten c.words words (stored_row c.sizes.processors a q) (event_count event_closes j q + 1)
    → AreStoredCountsOf j c → AreStoredCountsOf (did j q (Store a w)) (record c { steps = steps; totals = totals; words = words })
stored_tables_store {j = j} {c = c} {q = q} {a = a} {place = place} {steps = steps} {totals = totals} {words = words} w lt fresh long kept total word is = record {
  sizes = is.sizes;
  long = is.long;
  closed = λ r less. is.closed r less ∙ sym (stored_tables_inner j e r refl);
  pages = pages;
  words = marks;
  steps_sparse = longer_sparse_next j e c.steps steps (step_sparse is.steps_sparse.sparse kept.adds) kept.room kept.more is.steps_sparse;
  totals_sparse = longer_sparse_next j e c.totals totals total.is.sparse total.room total.more is.totals_sparse;
  words_sparse = longer_sparse_next j e c.words words word.is.sparse word.room word.more is.words_sparse;
}
  where
    s : Sizes
    s = judged_sizes_of c.sizes

    e : Event
    e = event q (Store a w)

    n : ℕ
    n = a / c.sizes.words

    k : ℕ
    k = event_count event_closes j q

    row : ℕ → ℕ → ℕ
    row = stored_row c.sizes.processors

    IsRow : ℕ → ℕ → List StoredStep → StoredTotal → Type 0
    IsRow m r xs x = AreStoredSteps s (j ++ e ∷ []) m r xs x

    here : IsRow n q (sparse_row steps (row n q)) (stored_total (sparse_at totals (row n q)))
    here =
        let adds = subst (λ x. StoredRowAdds (sparse_row c.steps (row n q)) (sparse_row steps (row n q)) x
        (stored_total (sparse_at c.totals (row n q))) k) (sym long) (step_row kept.adds) in
        subst (λ x. IsRow n q (sparse_row steps (row n q)) (stored_total x)) (sym total.is.now)
        (stored_next_store a w refl fresh adds (is.pages n q lt))

    pages : (m r : ℕ) → r < c.sizes.processors
        → IsRow m r (sparse_row steps (row m r)) (stored_total (sparse_at totals (row m r)))
    pages m r less = elim (cases_eq (row m r) (row n q)) [
      | inl same ↦
          (let both = nearest_race_row_one c.sizes.processors n m q r lt less same in
          subst (λ x. IsRow x r (sparse_row steps (row x r)) (stored_total (sparse_at totals (row x r)))) both.0
          (subst (λ x. IsRow n x (sparse_row steps (row n x)) (stored_total (sparse_at totals (row n x)))) both.1 here))
      | inr apart ↦
          (let other : (m ≡ n) × (r ≡ q) → ⊥ =
          λ both. apart (ap (λ x. row x r) both.0 ∙ ap (row n) both.1) in
          subst (λ xs. IsRow m r xs (stored_total (sparse_at totals (row m r)))) (sym (step_others (row m r) apart kept.adds))
          (subst (λ x. IsRow m r (sparse_row c.steps (row m r)) (stored_total x)) (sym (total.is.others (row m r) apart))
          (stored_next_same e (stored_next_no_store s j e m r (not_there s n q a w m r other)) (is.pages m r less))))
    ]

    mark : IsGapTallyMark (FetchGapStoreAt (j ++ e ∷ []) a q) (k + 1)
    mark = record {
      below = λ x h. elim ((gap_event_store_next j q a w).others a q x h) [
        | inl old ↦ (let le = gap_event_store_bound j a q x old in omega arith)
        | inr new ↦ (let same = new.2 in omega arith)
      ];
      last = λ some. let number : k ≡ k + 1 - 1 = omega arith in
          subst (FetchGapStoreAt (j ++ e ∷ []) a q) number (gap_event_store_next j q a w).now;
    }

    marks : (b r : ℕ) → r < c.sizes.processors
        → IsGapTallyMark (FetchGapStoreAt (j ++ e ∷ []) b r) (gap_tally_mark_in (sparse_at words (row b r)))
    marks b r less = elim (cases_eq (row b r) (row a q)) [
      | inl same ↦
          (let both = nearest_race_row_one c.sizes.processors a b q r lt less same in
          subst (λ x. IsGapTallyMark (FetchGapStoreAt (j ++ e ∷ []) x r) (gap_tally_mark_in (sparse_at words (row x r)))) both.0
          (subst (λ x. IsGapTallyMark (FetchGapStoreAt (j ++ e ∷ []) a x) (gap_tally_mark_in (sparse_at words (row a x)))) both.1
          (subst (λ x. IsGapTallyMark (FetchGapStoreAt (j ++ e ∷ []) a q) (gap_tally_mark_in x)) (sym word.is.now) mark)))
      | inr apart ↦
          subst (λ x. IsGapTallyMark (FetchGapStoreAt (j ++ e ∷ []) b r) (gap_tally_mark_in x)) (sym (word.is.others (row b r) apart))
          (stored_next_mark_same (FetchGapStoreAt j b r) (FetchGapStoreAt (j ++ e ∷ []) b r)
          (gap_tally_mark_in (sparse_at c.words (row b r))) (λ x. (
            (gap_event_store_next j q a w).same b r x,
            λ h. elim ((gap_event_store_next j q a w).others b r x h) [
              | inl old ↦ old
              | inr new ↦ absurd (apart (ap (λ y. row y r) new.0 ∙ ap (row a) new.1))
            ],
          )) (is.words b r less))
    ]
