-- What fetches have brought and what the next one brings, by cuts.
use Rattle.std.proofs.Common.{ℕ, ◌≡◌, ◌≢◌, ◌+◌, ◌-◌, ◌/◌, ◌<◌, ◌≤◌, ◌↔◌, not, nat_lt, inl, inr, Bool, true, List, [], ◌∷◌, ◌++◌, length, take, drop, filter, take-append-drop, refl, sym, ap, ◌∙◌, subst, true≢false, arith}
use Rattle.std.proofs.lemmas.Bool.{cases_lt, lt-ltb, le-ltb}
use Rattle.std.proofs.lemmas.List.{length-take-le}
use Rattle.std.proofs.lemmas.Option.{none-some}
use Rattle.base.proofs.FilteredInOrder.{filtered_in_order_has, in_order-filter}
use Rattle.base.proofs.SlicesAndCounts.{slice_get-from_take, slice_get-take, slice_get-take_within, slice_push_cases}
use Rattle.journal.specs.declared.event.Event.{Event}
use Rattle.journal.specs.declared.event.Kind.TheVariants.{Fetch, Store}
use Rattle.journal.specs.DidEvent.{did, event}
use Rattle.journal.specs.Sizes.{Sizes}
use Rattle.journal.specs.Events.{event_closes, event_interval_at}
use Rattle.journal.specs.HappensBeforeEdges.{HappensBefore}
use Rattle.journal.specs.BroughtCopy.{BroughtToCopy}
use Rattle.journal.specs.PageImages.{HasPageImageCount, StoredInGapOfPageImage}
use Rattle.journal.specs.Pasts.{InPast}
use Rattle.journal.specs.WellFormed.{Does}
use Rattle.journal.proofs.CopyOfPage.Brought.{brought_gap_is, brought_longer, brought_past, brought_push}
use Rattle.journal.proofs.CopyOfPage.PageStores.{page_store_same, page_stores_to}
use Rattle.journal.proofs.Missing.GapsCounted.{gaps_counted_same}
use Rattle.journal.proofs.Missing.MissingGaps.{missing_gap_not_mine}
use Rattle.journal.proofs.Order.EventPlacesAndCounts.{event_count-front, event_count-mono, event_place_at_end}
use Rattle.journal.proofs.Order.HappensBefore.{happens_before_shorter}
use Rattle.journal.proofs.Order.IntoPast.{into_past_back, into_past_own, into_past_reaches_new, into_past_within}
use Rattle.judge.specs.Cuts.{IsCutOf}
use Rattle.judge.specs.DueCounts.{IsDueFetchedCut}
use Rattle.judge.specs.FetchGaps.{FetchGapStoreInPage, FetchGapStoreOfWord}
use Rattle.judge.specs.declared.stored_steps.StoredAmounts.{StoredAmounts}
use Rattle.judge.specs.StoredSteps.{AreStoredAmounts, IsStoredLimit}
use Rattle.judge.proofs.StoredLimits.{stored_limit_longer, stored_limit_of_cut}
use Rattle.judge.proofs.ValueCounts.{value_count_joined, value_count_unique}

-- ---- what fetches have brought

-- before the first event nothing is brought
pub due_fetched_start : (s : Sizes) (p n : ℕ) (t : ℕ → ℕ) → ((q : ℕ) → t q ≡ 0) → IsDueFetchedCut s [] p n t
due_fetched_start s p n t none = record {
  brought = λ q i a v apart does page. absurd (none-some (event q (Store a v)) does);
  limits = λ q apart. record {
    within = (let zero_here = none q in omega arith);
    closed = λ i e at. absurd (none-some e at);
  };
}

-- what fetches of the page by p have brought stays under any other event
pub due_fetched_others : (s : Sizes) (j : List Event) (e : Event) (p n : ℕ) (t : ℕ → ℕ)
    → ((w r d : ℕ) → e ≢ event p (Fetch w n r d)) → IsDueFetchedCut s j p n t → IsDueFetchedCut s (j ++ e ∷ []) p n t
due_fetched_others s j e p n t none is = record {
  brought = brought;
  limits = λ q apart. stored_limit_longer j (e ∷ []) q (t q) (is.limits q apart);
}
  where
    brought : (q i a v : ℕ) → q ≢ p → Does (j ++ e ∷ []) i q (Store a v) → a / s.words ≡ n
        → BroughtToCopy (j ++ e ∷ []) p n i ↔ (i < t q)
    brought q i a v apart does page = elim (slice_push_cases j e i (event q (Store a v)) does) [
      | inl old ↦
          (let was = is.brought q i a v apart old.1 page in (
            λ b. was.0 (elim (brought_push s j e p n i none (page_stores_to s (j ++ e ∷ []) n i q a v does page) b) [
              | inl o ↦ o
              | inr last ↦ absurd (let at = last.0 in let lt = old.0 in omega arith)
            ]),
            λ less. brought_longer j (e ∷ []) p n i (was.1 less),
          ))
      | inr new ↦ (
        λ b. absurd (elim (brought_push s j e p n i none (page_stores_to s (j ++ e ∷ []) n i q a v does page) b) [
          | inl o ↦ (let lt = into_past_within j p i (brought_past j p n i o) in let at = new.0 in omega arith)
          | inr last ↦ apart (sym (ap (λ (f : Event). f.processor) new.1) ∙ last.1)
        ]),
        λ less. absurd (let top = (is.limits q apart).within in let at = new.0 in omega arith),
      )
    ]

-- a fetch brings what p's cut has
pub due_fetched_now : (s : Sizes) (j : List Event) (p n w r d : ℕ) (t : ℕ → ℕ) → IsCutOf j p t
    → IsDueFetchedCut s (did j p (Fetch w n r d)) p n t
due_fetched_now s j p n w r d t cut = record {
  brought = brought;
  limits = λ q apart. stored_limit_longer j (e ∷ []) q (t q) (stored_limit_of_cut cut q apart);
}
  where
    e : Event
    e = event p (Fetch w n r d)

    past : (q i a v : ℕ) → q ≢ p → Does (j ++ e ∷ []) i q (Store a v) → BroughtToCopy (j ++ e ∷ []) p n i → InPast j p i
    past q i a v apart does (inl mine) = absurd (missing_gap_not_mine (j ++ e ∷ []) p q i (Store a v) does apart mine)
    past q i a v apart does (inr x) =
        let f = x.1 in
        let fetch : Event = event p (Fetch f.0 n f.1 f.2) in
        elim (slice_push_cases j e x.0 fetch f.3) [
          | inl old ↦ into_past_back j p i x.0 (happens_before_shorter j (e ∷ []) old.0 x.2) (into_past_own j p x.0 fetch old.1 refl)
          | inr new ↦ (into_past_reaches_new j e i refl).0 (subst (HappensBefore (j ++ e ∷ []) i) new.0 x.2)
        ]

    brought : (q i a v : ℕ) → q ≢ p → Does (j ++ e ∷ []) i q (Store a v) → a / s.words ≡ n
        → BroughtToCopy (j ++ e ∷ []) p n i ↔ (i < t q)
    brought q i a v apart does page = elim (slice_push_cases j e i (event q (Store a v)) does) [
      | inl old ↦
          (let covers = cut.covers i (event q (Store a v)) old.1 apart in (
            λ b. covers.0 (past q i a v apart does b),
            λ less. inr (length j, (w, r, d, event_place_at_end j e), (into_past_reaches_new j e i refl).1 (covers.1 less)),
          ))
      | inr new ↦ absurd (apart (sym (ap (λ (f : Event). f.processor) new.1)))
    ]

-- ---- what the next one brings

-- what is in the gap, by intervals: those that end before p's cut, but after what its last fetch of the page knew
pub due_gap_between : {s : Sizes} {j : List Event} {p n : ℕ} (q k a : ℕ) {m t : ℕ → ℕ} → IsDueFetchedCut s j p n m → IsCutOf j p t
    → q ≢ p → StoredInGapOfPageImage s j p n (q, k, a)
    ↔ (FetchGapStoreOfWord s j n q (k, a) × (event_interval_at j q (m q) ≤ k) × (k < event_interval_at j q (t q)))
due_gap_between {s = s} {j = j} {p = p} {n = n} q k a {m = m} {t = t} fetched cut apart = (there, back)
  where
    there : StoredInGapOfPageImage s j p n (q, k, a)
        → FetchGapStoreOfWord s j n q (k, a) × (event_interval_at j q (m q) ≤ k) × (k < event_interval_at j q (t q))
    there g =
        let x = g.3.store in
        let address = (page_store_same j g.0 g.2 x.does).1 in
        let page : a / s.words ≡ n = ap (λ (b : ℕ). b / s.words) address ∙ x.in_page in
        let below = (cut.covers g.0 (event q (Store a g.1)) g.2 apart).0 g.3.past in
        let less = (stored_limit_of_cut cut q apart).closed g.0 (event q (Store a g.1)) g.2 refl below in
        let is = g.4 in (
          ((g.0, g.1, g.2, g.4), page),
          elim (cases_lt g.0 (m q)) [
            | inl lt ↦ absurd (((brought_gap_is s j p n g.0).0 g.3).2 ((fetched.brought q g.0 a g.1 apart g.2 page).1 lt))
            | inr le ↦ (let up = event_count-mono event_closes j (m q) g.0 q le in omega arith)
          ],
          omega arith,
        )

    back : FetchGapStoreOfWord s j n q (k, a) × (event_interval_at j q (m q) ≤ k) × (k < event_interval_at j q (t q))
        → StoredInGapOfPageImage s j p n (q, k, a)
    back h =
        let x = h.0.0 in
        let page = h.0.1 in
        let is = x.3 in
        let le = h.1 in
        let lt = h.2 in
        let below : x.0 < t q = elim (cases_lt x.0 (t q)) [
          | inl less ↦ less
          | inr past ↦ absurd (let up = event_count-mono event_closes j (t q) x.0 q past in omega arith)
        ] in (
          x.0,
          x.1,
          x.2,
          (brought_gap_is s j p n x.0).1 (
            (cut.covers x.0 (event q (Store a x.1)) x.2 apart).1 below,
            page_stores_to s j n x.0 q a x.1 x.2 page,
            λ b. let less = (fetched.brought q x.0 a x.1 apart x.2 page).0 b in
                let closed = (fetched.limits q apart).closed x.0 (event q (Store a x.1)) x.2 refl less in
                omega arith,
          ),
          x.3,
        )

-- ---- what is stored before a place where an interval ends

due_interval_front : (j : List Event) (q i v : ℕ) → i ≤ v → v ≤ length j → event_interval_at (take v j) q i ≡ event_interval_at j q i
due_interval_front j q i v le top =
    let long = length-take-le v j top in
    sym (event_count-front event_closes (take v j) (drop v j) i q (omega (arith, long, le)))
    ∙ ap (λ xs. event_interval_at xs q i) (take-append-drop v j)

-- are what is stored in intervals that end before it
pub due_word_known : {j : List Event} {q v : ℕ} (s : Sizes) (n : ℕ) → IsStoredLimit j q v → (y : ℕ × ℕ)
    → FetchGapStoreOfWord s (take v j) n q y ↔ (FetchGapStoreOfWord s j n q y × (y.0 < event_interval_at j q v))
due_word_known {j = j} {q = q} {v = v} s n limit y = (there, back)
  where
    there : FetchGapStoreOfWord s (take v j) n q y → FetchGapStoreOfWord s j n q y × (y.0 < event_interval_at j q v)
    there h =
        let x = h.0 in
        let store = event q (Store y.1 x.1) in
        let lt = slice_get-take_within j v x.0 store x.2 in
        let does = slice_get-from_take j v x.0 store x.2 in
        let top = limit.within in
        let front = due_interval_front j q x.0 v (omega arith) top in
        let less = limit.closed x.0 store does refl lt in
        let is = x.3 in
        (((x.0, x.1, does, sym front ∙ is), h.1), omega (arith, front, less, is))

    back : FetchGapStoreOfWord s j n q y × (y.0 < event_interval_at j q v) → FetchGapStoreOfWord s (take v j) n q y
    back h =
        let x = h.0.0 in
        let is = x.3 in
        let less = h.1 in
        let lt : x.0 < v = elim (cases_lt x.0 v) [
          | inl below ↦ below
          | inr past ↦ absurd (let up = event_count-mono event_closes j v x.0 q past in omega (arith, up, is, less))
        ] in
        let front = due_interval_front j q x.0 v (omega arith) limit.within in
        ((x.0, x.1, slice_get-take j v x.0 lt ∙ x.2, front ∙ is), h.0.1)

pub due_page_known : {j : List Event} {q v : ℕ} (s : Sizes) (n : ℕ) → IsStoredLimit j q v → (k : ℕ)
    → FetchGapStoreInPage s (take v j) n q k ↔ (FetchGapStoreInPage s j n q k × (k < event_interval_at j q v))
due_page_known s n limit k = (
  λ h. let known = (due_word_known s n limit (k, h.0)).0 h.1 in ((h.0, known.0), known.1),
  λ h. (h.0.0, (due_word_known s n limit (k, h.0.0)).1 (h.0.1, h.1)),
)

-- of values with a number, those from one number on and below another, by those below each
pub due_count_between : {A : Type 0} (V : A → Type 0) (f : A → ℕ) (from to less more : ℕ) → from ≤ to
    → HasPageImageCount (λ x. V x × (f x < from)) less → HasPageImageCount (λ x. V x × (f x < to)) more
    → (less ≤ more) × HasPageImageCount (λ x. V x × (from ≤ f x) × (f x < to)) (more - less)
due_count_between {A} V f from to less more le small large =
    let sum = value_count_unique (λ x. V x × (f x < to)) (less + length gap) more both large in
    let rest : length gap ≡ more - less = omega (arith, sum) in
    (omega (arith, sum), subst (HasPageImageCount (λ x. V x × (from ≤ f x) × (f x < to))) rest counted)
  where
    pick : A → Bool
    pick x = not (nat_lt (f x) from)

    picks : (x : A) → pick x ≡ true → from ≤ f x
    picks x is = elim (cases_lt (f x) from) [
      | inl lt ↦ absurd (true≢false (sym is ∙ ap not (lt-ltb (f x) from lt)))
      | inr from_on ↦ from_on
    ]

    gap : List A
    gap = filter pick large.list

    counted : HasPageImageCount (λ x. V x × (from ≤ f x) × (f x < to)) (length gap)
    counted = record {
      list = gap;
      each = λ x. (
        λ h. let has = (filtered_in_order_has pick large.list x).0 h in
            let v = (large.each x).0 has.0 in (v.0, picks x has.1, v.1),
        λ v. (filtered_in_order_has pick large.list x).1 ((large.each x).1 (v.0, v.2), ap not (le-ltb (f x) from v.1)),
      );
      once = in_order-filter (λ (a b : A). a ≢ b) pick large.list large.once;
      length_is = refl;
    }

    both : HasPageImageCount (λ x. V x × (f x < to)) (less + length gap)
    both = value_count_joined (λ x. V x × (f x < from)) (λ x. V x × (from ≤ f x) × (f x < to)) (λ x. V x × (f x < to)) less
        (length gap) (λ x a b. (let below = a.1 in let above = b.1 in omega arith)) (λ x. (
          λ v. elim (cases_lt (f x) from) [ inl lt ↦ inl (v.0, lt) | inr on ↦ inr (v.0, on, v.1) ],
          λ h. elim h [ inl a ↦ (a.0, (let below = a.1 in omega arith)) | inr b ↦ (b.0, b.2) ],
        )) small counted

-- amounts that are known, as counts of intervals
pub due_records_known : {s : Sizes} {j : List Event} {n q v : ℕ} {x : StoredAmounts} → IsStoredLimit j q v
    → AreStoredAmounts s (take v j) n q x
    → HasPageImageCount (λ (k : ℕ). FetchGapStoreInPage s j n q k × (k < event_interval_at j q v)) x.records
due_records_known {s = s} {j = j} {n = n} {q = q} {v = v} {x = x} limit are =
    gaps_counted_same (FetchGapStoreInPage s (take v j) n q)
    (λ (k : ℕ). FetchGapStoreInPage s j n q k × (k < event_interval_at j q v)) x.records (due_page_known s n limit) are.records

pub due_words_known : {s : Sizes} {j : List Event} {n q v : ℕ} {x : StoredAmounts} → IsStoredLimit j q v
    → AreStoredAmounts s (take v j) n q x
    → HasPageImageCount (λ (y : ℕ × ℕ). FetchGapStoreOfWord s j n q y × (y.0 < event_interval_at j q v)) x.words
due_words_known {s = s} {j = j} {n = n} {q = q} {v = v} {x = x} limit are =
    gaps_counted_same (FetchGapStoreOfWord s (take v j) n q)
    (λ (y : ℕ × ℕ). FetchGapStoreOfWord s j n q y × (y.0 < event_interval_at j q v)) x.words (due_word_known s n limit) are.words
