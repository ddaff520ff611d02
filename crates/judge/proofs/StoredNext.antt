-- What a processor has stored in a page, after one more event.
use Rattle.std.proofs.Common.{ℕ, ◌≡◌, ◌≢◌, ◌+◌, ◌-◌, ◌/◌, ◌<◌, ◌≤◌, ◌⊎◌, ◌↔◌, inl, inr, cond, nat_lt, List, [], ◌∷◌, ◌++◌, length, take, refl, sym, ap, ◌∙◌, subst, arith, length-append}
use Rattle.std.proofs.lemmas.Bool.{cases_lt, lt-ltb, le-ltb}
use Rattle.std.proofs.lemmas.List.{take-append-le, take_all}
use Rattle.std.proofs.lemmas.Option.{none-some}
use Rattle.base.specs.InOrderOnce.{Has, InOrder}
use Rattle.base.proofs.JoinedLists.{joined_list_has-append, joined_list_has-cons, joined_list_has-nil, joined_list_in_order-append, joined_list_in_order_single}
use Rattle.journal.specs.declared.event.Event.{Event}
use Rattle.journal.specs.declared.event.Kind.TheVariants.{Store}
use Rattle.journal.specs.DidEvent.{did, event}
use Rattle.journal.specs.Sizes.{Sizes}
use Rattle.journal.specs.Events.{event_count, event_closes}
use Rattle.journal.specs.PageImages.{HasPageImageCount}
use Rattle.journal.proofs.Missing.GapsCounted.{gaps_counted_same}
use Rattle.journal.proofs.Order.EventPlacesAndCounts.{event_count-append, event_count-front-le, event_place_at_end, event_place_inside}
use Rattle.judge.specs.declared.stored_steps.StoredAmounts.{StoredAmounts}
use Rattle.judge.specs.declared.stored_steps.StoredStep.{StoredStep}
use Rattle.judge.specs.declared.stored_steps.StoredTotal.{StoredTotal}
use Rattle.judge.specs.FetchGaps.{FetchGapStoreAt, FetchGapStoreInPage, FetchGapStoreOfWord}
use Rattle.judge.specs.GapTally.{IsGapTallyMark}
use Rattle.judge.specs.StoredSteps.{AreStoredAmounts, AreStoredSteps, HasStoredStepFrom, IsStoredAsked, IsStoredAt, IsStoredLimit, stored_before, stored_total_next}
use Rattle.judge.proofs.GapEvents.{gap_event_page_next, gap_event_store_bound, gap_event_store_longer, gap_event_store_push, gap_event_word_next}
use Rattle.judge.proofs.StoredBefore.{stored_before_all, stored_before_any, stored_before_push}
use Rattle.judge.proofs.StoredAsks.{stored_asks_inside, stored_asks_longer, stored_asks_shorter}
use Rattle.judge.proofs.StoredLimits.{stored_limit_inner}
use Rattle.judge.proofs.ValueCounts.{value_count_joined, value_count_none, value_count_one}

-- ---- an event that adds no word of page n that q stores

-- e adds none
abbrev pub IsStoredSame : Sizes → List Event → Event → ℕ → ℕ → Type 0
IsStoredSame s j e n q = (x : ℕ × ℕ) → FetchGapStoreOfWord s j n q x ↔ FetchGapStoreOfWord s (j ++ e ∷ []) n q x

-- no store of q to the page does
pub stored_next_no_store : (s : Sizes) (j : List Event) (e : Event) (n q : ℕ)
    → ((a v : ℕ) → e ≡ event q (Store a v) → a / s.words ≢ n) → IsStoredSame s j e n q
stored_next_no_store s j e n q none x = (
  λ h. (gap_event_store_longer j e x.1 q x.0 h.0, h.1),
  λ h. elim (gap_event_store_push j e x.1 q x.0 h.0) [
    | inl old ↦ (old, h.1)
    | inr new ↦ absurd (none x.1 new.0 new.1 h.1)
  ],
)

stored_next_page_same : (s : Sizes) (j : List Event) (e : Event) (n q : ℕ) → IsStoredSame s j e n q → (k : ℕ)
    → FetchGapStoreInPage s j n q k ↔ FetchGapStoreInPage s (j ++ e ∷ []) n q k
stored_next_page_same s j e n q same k = (
  λ h. (h.0, (same (k, h.0)).0 h.1),
  λ h. (h.0, (same (k, h.0)).1 h.1),
)

stored_next_amounts_same : (s : Sizes) (j : List Event) (e : Event) (n q : ℕ) (x : StoredAmounts) → IsStoredSame s j e n q
    → AreStoredAmounts s j n q x → AreStoredAmounts s (j ++ e ∷ []) n q x
stored_next_amounts_same s j e n q x same is = record {
  records = gaps_counted_same (FetchGapStoreInPage s j n q) (FetchGapStoreInPage s (j ++ e ∷ []) n q) x.records
      (stored_next_page_same s j e n q same) is.records;
  words = gaps_counted_same (FetchGapStoreOfWord s j n q) (FetchGapStoreOfWord s (j ++ e ∷ []) n q) x.words same is.words;
}

-- numbers that stay have their mark
pub stored_next_mark_same : (M N : ℕ → Type 0) (m : ℕ) → ((k : ℕ) → M k ↔ N k) → IsGapTallyMark M m → IsGapTallyMark N m
stored_next_mark_same M N m same is = record {
  below = λ k h. is.below k ((same k).1 h);
  last = λ some. (same (m - 1)).0 (is.last some);
}

-- it leaves the steps and the total
pub stored_next_same : {s : Sizes} {j : List Event} {n q : ℕ} {steps : List StoredStep} {total : StoredTotal} → (e : Event)
    → IsStoredSame s j e n q → AreStoredSteps s j n q steps total → AreStoredSteps s (j ++ e ∷ []) n q steps total
stored_next_same {s = s} {j = j} {n = n} {q = q} {steps = steps} {total = total} e same is = record {
  until = stored_next_mark_same (FetchGapStoreInPage s j n q) (FetchGapStoreInPage s (j ++ e ∷ []) n q) total.until
      (stored_next_page_same s j e n q same) is.until;
  all = all;
  few_records = (let few = is.few_records in omega (arith, long, few));
  few_words = (let few = is.few_words in omega (arith, long, few));
  before = before;
  rising = is.rising;
  stores = λ x h. stored_asks_longer e x.place (is.stores x h);
  last = last;
}
  where
    long : length (j ++ e ∷ []) ≡ length j + 1
    long = length-append j (e ∷ [])

    all : AreStoredAmounts s (j ++ e ∷ []) n q total.amounts
    all = stored_next_amounts_same s j e n q total.amounts same is.all

    before : (v : ℕ) → IsStoredAsked s (j ++ e ∷ []) n q v
        → AreStoredAmounts s (take v (j ++ e ∷ [])) n q (stored_before steps total.amounts v)
    before v asked = elim (cases_lt (length j) v) [
      | inl lt ↦
          (let whole = take_all v (j ++ e ∷ []) (omega (arith, long, lt)) in
          let none_from = stored_before_all steps total.amounts v (λ x h. (let in_j = stored_asks_inside x.place (is.stores x h) in omega arith)) in
          subst (λ xs. AreStoredAmounts s xs n q (stored_before steps total.amounts v)) (sym whole)
          (subst (AreStoredAmounts s (j ++ e ∷ []) n q) (sym none_from) all))
      | inr le ↦
          subst (λ xs. AreStoredAmounts s xs n q (stored_before steps total.amounts v)) (sym (take-append-le v j (e ∷ []) le))
          (is.before v (stored_asks_shorter e le asked))
    ]

    -- a store in the open interval is no event before a limit
    late : (v : ℕ) → IsStoredLimit (j ++ e ∷ []) q v
        → FetchGapStoreInPage s (j ++ e ∷ []) n q (event_count event_closes (j ++ e ∷ []) q) → length j < v → ⊥
    late v limit h lt =
        let store = h.1.0 in
        let does = store.2 in
        let number = store.3 in
        let inside = event_place_inside (j ++ e ∷ []) store.0 (event q (Store h.0 store.1)) does in
        let below = limit.closed store.0 (event q (Store h.0 store.1)) does refl (omega (arith, long, lt, inside)) in
        let top = event_count-front-le event_closes (j ++ e ∷ []) v q in
        omega (arith, number, below, top)

    last : FetchGapStoreInPage s (j ++ e ∷ []) n q (event_count event_closes (j ++ e ∷ []) q) → (v : ℕ)
        → IsStoredAsked s (j ++ e ∷ []) n q v → HasStoredStepFrom steps v
    last h v asked = elim (cases_lt (length j) v) [
      | inl lt ↦ absurd (late v asked.limit h lt)
      | inr le ↦
          (let old = (stored_next_page_same s j e n q same (event_count event_closes (j ++ e ∷ []) q)).1 h in
          let bound = gap_event_store_bound j old.0 q (event_count event_closes (j ++ e ∷ []) q) old.1.0 in
          let sum = event_count-append event_closes j (e ∷ []) q in
          let number : event_count event_closes (j ++ e ∷ []) q ≡ event_count event_closes j q = omega (arith, bound, sum) in
          is.last (subst (FetchGapStoreInPage s j n q) number old) v (stored_asks_shorter e le asked))
    ]

-- ---- a store of q to page n

-- one value more is counted
pub stored_next_counted : {A : Type 0} (P Q : A → Type 0) (y : A) (c : ℕ) → ¬ P y → ((x : A) → Q x ↔ (P x ⊎ (x ≡ y)))
    → HasPageImageCount P c → HasPageImageCount Q (c + 1)
stored_next_counted {A} P Q y c none is counted =
    value_count_joined P (λ x. x ≡ y) Q c 1 (λ x p same. none (subst P same p)) is counted
    (value_count_one (λ (x : A). x ≡ y) y refl (λ z same. sym same))

-- a record more, unless something was stored in this interval
stored_next_none : (k until : ℕ) → k < until → ◌≡◌ {A = ℕ} (cond (nat_lt k until) 0 1) 0
stored_next_none k until lt = ap (λ b. cond b 0 1) (lt-ltb k until lt)

stored_next_one : (k until : ℕ) → until ≤ k → ◌≡◌ {A = ℕ} (cond (nat_lt k until) 0 1) 1
stored_next_one k until le = ap (λ b. cond b 0 1) (le-ltb k until le)

-- the place is a step, unless something was stored in this interval
abbrev pub StoredRowAdds : List StoredStep → List StoredStep → ℕ → StoredTotal → ℕ → Type 0
StoredRowAdds steps after place total interval =
    ((total.until ≤ interval) × (after ≡ steps ++ record { place = place; before = total.amounts } ∷ []))
    ⊎ ((interval < total.until) × (after ≡ steps))

-- the first one of its interval to this address
pub stored_next_store : {s : Sizes} {j : List Event} {n q : ℕ} {steps after : List StoredStep} {total : StoredTotal} → (a w : ℕ)
    → a / s.words ≡ n → ¬ FetchGapStoreAt j a q (event_count event_closes j q)
    → StoredRowAdds steps after (length j) total (event_count event_closes j q) → AreStoredSteps s j n q steps total
    → AreStoredSteps s (did j q (Store a w)) n q after (stored_total_next total (event_count event_closes j q))
stored_next_store {s = s} {j = j} {n = n} {q = q} {steps = steps} {after = after} {total = total} a w page fresh adds is = record {
  until = until;
  all = all;
  few_records = few_records;
  few_words = (let few = is.few_words in omega (arith, long, few));
  before = before;
  rising = rising;
  stores = stores;
  last = last;
}
  where
    e : Event
    e = event q (Store a w)

    k : ℕ
    k = event_count event_closes j q

    next : StoredTotal
    next = stored_total_next total k

    long : length (j ++ e ∷ []) ≡ length j + 1
    long = length-append j (e ∷ [])

    P : ℕ → Type 0
    P = FetchGapStoreInPage s j n q

    Q : ℕ → Type 0
    Q = FetchGapStoreInPage s (j ++ e ∷ []) n q

    page_is : (x : ℕ) → Q x ↔ (P x ⊎ (x ≡ k))
    page_is x =
        let one = gap_event_page_next s j q a w in (
          λ h. elim (one.others n q x h) [ inl old ↦ inl old | inr new ↦ inr new.2 ],
          λ h. elim h [
            | inl old ↦ one.same n q x old
            | inr same ↦ subst Q (sym same) (subst (λ m. FetchGapStoreInPage s (j ++ e ∷ []) m q k) page one.now)
          ],
        )

    word_is : (x : ℕ × ℕ) → FetchGapStoreOfWord s (j ++ e ∷ []) n q x ↔ (FetchGapStoreOfWord s j n q x ⊎ (x ≡ (k, a)))
    word_is x =
        let one = gap_event_word_next s j q a w in (
          λ h. elim (one.others n q x h) [ inl old ↦ inl old | inr new ↦ inr new.2 ],
          λ h. elim h [
            | inl old ↦ one.same n q x old
            | inr same ↦ subst (FetchGapStoreOfWord s (j ++ e ∷ []) n q) (sym same)
                (subst (λ m. FetchGapStoreOfWord s (j ++ e ∷ []) m q (k, a)) page one.now)
          ],
        )

    -- whether the page was stored to in the interval
    was : k < total.until → P k
    was lt =
        let stored = is.until.last (λ none. absurd (omega (arith, none, lt))) in
        let bound = gap_event_store_bound j stored.0 q (total.until - 1) stored.1.0 in
        subst P (omega (arith, lt, bound)) stored

    wasnt : total.until ≤ k → ¬ P k
    wasnt le h = let lt = is.until.below k h in omega (arith, le, lt)

    until : IsGapTallyMark Q next.until
    until = record {
      below = λ x h. elim ((page_is x).0 h) [
        | inl old ↦ (let le = gap_event_store_bound j old.0 q x old.1.0 in omega arith)
        | inr same ↦ omega arith
      ];
      last = λ some. let number : k ≡ next.until - 1 = omega arith in subst Q number ((page_is k).1 (inr refl));
    }

    records : HasPageImageCount Q next.amounts.records
    records = elim (cases_lt k total.until) [
      | inl lt ↦
          (let same : next.amounts.records ≡ total.amounts.records =
          (let none = stored_next_none k total.until lt in omega arith) in
          subst (HasPageImageCount Q) (sym same)
          (gaps_counted_same P Q total.amounts.records (λ x. (
            λ h. (page_is x).1 (inl h),
            λ h. elim ((page_is x).0 h) [ inl old ↦ old | inr new ↦ subst P (sym new) (was lt) ],
          )) is.all.records))
      | inr le ↦
          (let same : next.amounts.records ≡ total.amounts.records + 1 =
          (let one = stored_next_one k total.until le in omega arith) in
          subst (HasPageImageCount Q) (sym same)
          (stored_next_counted P Q k total.amounts.records (wasnt le) page_is is.all.records))
    ]

    all : AreStoredAmounts s (j ++ e ∷ []) n q next.amounts
    all = record {
      records = records;
      words = stored_next_counted (FetchGapStoreOfWord s j n q) (FetchGapStoreOfWord s (j ++ e ∷ []) n q) (k, a)
          total.amounts.words (λ h. fresh h.0) word_is is.all.words;
    }

    few_records : next.amounts.records ≤ length (j ++ e ∷ [])
    few_records = let few = is.few_records in elim (cases_lt k total.until) [
      | inl lt ↦
          (let same : next.amounts.records ≡ total.amounts.records =
          (let none = stored_next_none k total.until lt in omega arith) in
          omega (arith, long, few, same))
      | inr le ↦
          (let same : next.amounts.records ≡ total.amounts.records + 1 =
          (let one = stored_next_one k total.until le in omega arith) in
          omega (arith, long, few, same))
    ]

    step : StoredStep
    step = record { place = length j; before = total.amounts }

    front : (v : ℕ) → IsStoredAsked s (j ++ e ∷ []) n q v → v ≤ length j
    front v asked = stored_limit_inner j e v refl asked.limit

    known : (v : ℕ) → IsStoredAsked s j n q v → stored_before after next.amounts v ≡ stored_before steps total.amounts v
    known v asked = elim adds [
      | inl new ↦
          ap (λ xs. stored_before xs next.amounts v) new.1 ∙ stored_before_push steps step next.amounts v asked.limit.within
      | inr old ↦
          ap (λ xs. stored_before xs next.amounts v) old.1
          ∙ stored_before_any steps next.amounts total.amounts v (is.last (was old.0) v asked)
    ]

    before : (v : ℕ) → IsStoredAsked s (j ++ e ∷ []) n q v
        → AreStoredAmounts s (take v (j ++ e ∷ [])) n q (stored_before after next.amounts v)
    before v asked =
        let le = front v asked in
        let old = stored_asks_shorter e le asked in
        subst (λ xs. AreStoredAmounts s xs n q (stored_before after next.amounts v)) (sym (take-append-le v j (e ∷ []) le))
        (subst (AreStoredAmounts s (take v j) n q) (sym (known v old)) (is.before v old))

    rising : InOrder (λ (x y : StoredStep). x.place ≤ y.place) after
    rising = elim adds [
      | inl new ↦ subst (InOrder (λ (x y : StoredStep). x.place ≤ y.place)) (sym new.1)
          (joined_list_in_order-append (λ (x y : StoredStep). x.place ≤ y.place) steps (step ∷ []) is.rising
          (joined_list_in_order_single (λ (x y : StoredStep). x.place ≤ y.place) step)
          (λ x y h g. (let lt = stored_asks_inside x.place (is.stores x h) in elim ((joined_list_has-cons step [] y).0 g) [
            | inl same ↦ subst (λ (z : StoredStep). x.place ≤ z.place) same (omega arith)
            | inr none ↦ absurd (joined_list_has-nil y none)
          ])))
      | inr old ↦ subst (InOrder (λ (x y : StoredStep). x.place ≤ y.place)) (sym old.1) is.rising
    ]

    stores : (x : StoredStep) → Has after x → IsStoredAt s (j ++ e ∷ []) n q x.place
    stores x h = elim adds [
      | inl new ↦ elim ((joined_list_has-append steps (step ∷ []) x).0 (subst (λ xs. Has xs x) new.1 h)) [
        | inl old ↦ stored_asks_longer e x.place (is.stores x old)
        | inr now ↦ elim ((joined_list_has-cons step [] x).0 now) [
          | inl same ↦ subst (λ (z : StoredStep). IsStoredAt s (j ++ e ∷ []) n q z.place) same
              (record { address = a; value = w; does = event_place_at_end j e; in_page = page })
          | inr none ↦ absurd (joined_list_has-nil x none)
        ]
      ]
      | inr old ↦ stored_asks_longer e x.place (is.stores x (subst (λ xs. Has xs x) old.1 h))
    ]

    last : Q (event_count event_closes (j ++ e ∷ []) q) → (v : ℕ) → IsStoredAsked s (j ++ e ∷ []) n q v
        → HasStoredStepFrom after v
    last h v asked =
        let le = front v asked in
        elim adds [
          | inl new ↦ record {
            step = step;
            has = subst (λ xs. Has xs step) (sym new.1) ((joined_list_has-append steps (step ∷ []) step).1 (inr (0, refl)));
            from = le;
          }
          | inr old ↦ subst (λ xs. HasStoredStepFrom xs v) (sym old.1)
              (is.last (was old.0) v (stored_asks_shorter e le asked))
        ]

-- before the first event nothing is stored
pub stored_next_start : (s : Sizes) (n q : ℕ) → AreStoredSteps s [] n q [] (record { until = 0; amounts = record { records = 0; words = 0 } })
stored_next_start s n q = record {
  until = record { below = λ k h. absurd (none-some _ h.1.0.2); last = λ some. absurd (some refl) };
  all = nothing;
  few_records = omega arith;
  few_words = omega arith;
  before = λ v asked. subst (λ xs. AreStoredAmounts s xs n q (record { records = 0; words = 0 }))
      (sym (take_all v [] (omega arith))) nothing;
  rising = λ i k x y lt at to. absurd (none-some x at);
  stores = λ x h. absurd (joined_list_has-nil x h);
  last = λ h. absurd (none-some _ h.1.0.2);
}
  where
    nothing : AreStoredAmounts s [] n q (record { records = 0; words = 0 })
    nothing = record {
      records = value_count_none (FetchGapStoreInPage s [] n q) (λ k h. none-some _ h.1.0.2);
      words = value_count_none (FetchGapStoreOfWord s [] n q) (λ x h. none-some _ h.0.2);
    }
