-- What a history's stores and fetches are to the gap of a fetch that comes next.
use Rattle.std.proofs.Common.{ℕ, ◌≡◌, ◌≢◌, ◌<◌, ◌≤◌, ◌⊎◌, ◌↔◌, ◌/◌, inl, inr, List, [], ◌∷◌, ◌++◌, length, refl, sym, ap, ap₂, ◌∙◌, subst, le_of_lt, arith}
use Rattle.std.proofs.lemmas.Bool.{cases_lt}
use Rattle.std.proofs.lemmas.Option.{none-some}
use Rattle.std.proofs.Math.Seq.{take-append_seam}
use Rattle.base.proofs.SlicesAndCounts.{slice_push_cases}
use Rattle.journal.specs.declared.event.Event.{Event}
use Rattle.journal.specs.declared.event.Kind.TheVariants.{Store, Fetch}
use Rattle.journal.specs.DidEvent.{did, event}
use Rattle.journal.specs.Sizes.{Sizes}
use Rattle.journal.specs.Events.{event_count, event_interval_at, event_closes}
use Rattle.journal.specs.HappensBeforeEdges.{HappensBefore}
use Rattle.journal.specs.Pasts.{InPast}
use Rattle.journal.specs.Times.{IsTimeOf}
use Rattle.journal.specs.WellFormed.{Does}
use Rattle.journal.specs.PageImages.{StoredInGapOfPageImage}
use Rattle.journal.specs.BroughtCopy.{BroughtToCopy}
use Rattle.journal.proofs.Order.EventPlacesAndCounts.{event_place_inside, event_place_longer, event_place_at_end, event_count-append, event_count-front, event_count-front-le}
use Rattle.journal.proofs.Order.HappensBefore.{happens_before_shorter}
use Rattle.journal.proofs.Order.IntoPast.{into_past_back, into_past_within, into_past_own, into_past_reaches_new}
use Rattle.journal.proofs.Times.TimesOfPlaces.{time_of_places_interval_behind}
use Rattle.journal.proofs.Times.PushedTimes.{pushed_time_covers_past}
use Rattle.journal.proofs.CopyOfPage.PageStores.{page_store_same, page_stores_to}
use Rattle.journal.proofs.CopyOfPage.Brought.{brought_longer, brought_past, brought_push, brought_gap_is}
use Rattle.journal.proofs.Missing.MissingGaps.{missing_gaps_apart, missing_gap_not_mine}
use Rattle.judge.specs.FetchGaps.{FetchGapStoreAt, FetchGapStoreInPage, FetchGapStoreOfWord, FetchGapBroughtUpTo}
use Rattle.judge.proofs.TallyRows.{IsOneMoreInTallyRow}

-- a store stays in its interval as the history goes on
pub gap_event_store_longer : (j : List Event) (e : Event) (a q k : ℕ) → FetchGapStoreAt j a q k → FetchGapStoreAt (j ++ e ∷ []) a q k
gap_event_store_longer j e a q k x =
    let within = le_of_lt (event_place_inside j x.0 (event q (Store a x.1)) x.2) in (
      x.0,
      x.1,
      event_place_longer j (e ∷ []) x.0 (event q (Store a x.1)) x.2,
      event_count-front event_closes j (e ∷ []) x.0 q within
          ∙ x.3,
    )

-- after one more event a store is an old one, or the event itself, in its processor's open interval
pub gap_event_store_push : (j : List Event) (e : Event) (a q k : ℕ) → FetchGapStoreAt (j ++ e ∷ []) a q k
    → FetchGapStoreAt j a q k ⊎ ((v : ℕ) × (e ≡ event q (Store a v)) × (k ≡ event_count event_closes j q))
gap_event_store_push j e a q k x = elim (slice_push_cases j e x.0 (event q (Store a x.1)) x.2) [
  | inl old ↦
      inl (x.0, x.1, old.1, sym (event_count-front event_closes j (e ∷ []) x.0 q (le_of_lt old.0)) ∙ x.3)
  | inr new ↦
      inr (
        x.1,
        new.1,
        sym x.3 ∙ ap (event_interval_at (j ++ e ∷ []) q) new.0
            ∙ ap (λ (xs : List Event). event_count event_closes xs q) (take-append_seam j (e ∷ [])),
      )
]

-- no interval is past the open one
pub gap_event_store_bound : (j : List Event) (a q k : ℕ) → FetchGapStoreAt j a q k → k ≤ event_count event_closes j q
gap_event_store_bound j a q k x = let le = event_count-front-le event_closes j x.0 q in let is = x.3 in omega arith

-- an event that is no store
pub gap_event_store_others : (j : List Event) (e : Event) → ((q a v : ℕ) → e ≢ event q (Store a v)) → (a q k : ℕ)
    → FetchGapStoreAt j a q k ↔ FetchGapStoreAt (j ++ e ∷ []) a q k
gap_event_store_others j e none a q k = (
  gap_event_store_longer j e a q k,
  λ x. elim (gap_event_store_push j e a q k x) [ inl old ↦ old | inr new ↦ absurd (none q a new.0 new.1) ],
)

pub gap_event_word_others : (s : Sizes) (j : List Event) (e : Event) → ((q a v : ℕ) → e ≢ event q (Store a v)) → (n q : ℕ)
    → (x : ℕ × ℕ) → FetchGapStoreOfWord s j n q x ↔ FetchGapStoreOfWord s (j ++ e ∷ []) n q x
gap_event_word_others s j e none n q x =
    let same = gap_event_store_others j e none x.1 q x.0 in (λ h. (same.0 h.0, h.1), λ h. (same.1 h.0, h.1))

pub gap_event_page_others : (s : Sizes) (j : List Event) (e : Event) → ((q a v : ℕ) → e ≢ event q (Store a v)) → (n q k : ℕ)
    → FetchGapStoreInPage s j n q k ↔ FetchGapStoreInPage s (j ++ e ∷ []) n q k
gap_event_page_others s j e none n q k = (
  λ h. (h.0, (gap_event_word_others s j e none n q (k, h.0)).0 h.1),
  λ h. (h.0, (gap_event_word_others s j e none n q (k, h.0)).1 h.1),
)

gap_event_same_store : (q a v r b w : ℕ) → event q (Store a v) ≡ event r (Store b w) → (r ≡ q) × (b ≡ a)
gap_event_same_store q a v r b w is =
    let kind = ap (λ (e : Event). e.kind) is in
    let kinds : Store a v ≡ Store b w = kind in
    (sym (ap (λ (e : Event). e.processor) is), cc)

-- a store is one more, of its address
pub gap_event_store_next : (j : List Event) (q a v : ℕ)
    → IsOneMoreInTallyRow (FetchGapStoreAt j) (FetchGapStoreAt (did j q (Store a v))) a q (event_count event_closes j q)
gap_event_store_next j q a v = record {
  same = λ b r k. gap_event_store_longer j (event q (Store a v)) b r k;
  now = (
    length j,
    v,
    event_place_at_end j (event q (Store a v)),
    ap (λ (xs : List Event). event_count event_closes xs q) (take-append_seam j (event q (Store a v) ∷ [])),
  );
  others = λ b r k x. elim (gap_event_store_push j (event q (Store a v)) b r k x) [
    | inl old ↦ inl old
    | inr new ↦
        (let same = gap_event_same_store q a v r b new.0 new.1 in
        inr (same.1, same.0, new.2 ∙ ap (event_count event_closes j) same.0))
  ];
}

-- of its word
pub gap_event_word_next : (s : Sizes) (j : List Event) (q a v : ℕ)
    → IsOneMoreInTallyRow (FetchGapStoreOfWord s j) (FetchGapStoreOfWord s (did j q (Store a v))) (a / s.words) q (event_count event_closes j q, a)
gap_event_word_next s j q a v =
    let next = gap_event_store_next j q a v in
    record {
      same = λ n r x h. (next.same x.1 r x.0 h.0, h.1);
      now = (next.now, refl);
      others = λ n r x h. elim (next.others x.1 r x.0 h.0) [
        | inl old ↦ inl (old, h.1)
        | inr new ↦
            inr (sym h.1 ∙ ap (λ (b : ℕ). b / s.words) new.0, new.1, pairs x new.2 new.0)
      ];
    }
  where
    pairs : (x : ℕ × ℕ) → x.0 ≡ event_count event_closes j q → x.1 ≡ a → x ≡ (event_count event_closes j q, a)
    pairs x first second = ap₂ (λ (k b : ℕ). (k, b)) first second

-- of its page
pub gap_event_page_next : (s : Sizes) (j : List Event) (q a v : ℕ)
    → IsOneMoreInTallyRow (FetchGapStoreInPage s j) (FetchGapStoreInPage s (did j q (Store a v))) (a / s.words) q (event_count event_closes j q)
gap_event_page_next s j q a v =
    let next = gap_event_word_next s j q a v in
    record {
      same = λ n r k h. (h.0, next.same n r (k, h.0) h.1);
      now = (a, next.now);
      others = λ n r k h. elim (next.others n r (k, h.0) h.1) [
        | inl old ↦ inl (h.0, old)
        | inr new ↦ inr (new.0, new.1, ap (λ (x : ℕ × ℕ). x.0) new.2)
      ];
    }

-- what fetches of the page by p have brought stays under any other event
pub gap_event_fetched_others : (s : Sizes) (j : List Event) (e : Event) (p n : ℕ) (m : ℕ → ℕ)
    → ((w r d : ℕ) → e ≢ event p (Fetch w n r d)) → FetchGapBroughtUpTo s j p n m → FetchGapBroughtUpTo s (j ++ e ∷ []) p n m
gap_event_fetched_others s j e p n m none is = record { brought = brought; within = within }
  where
    within : (q : ℕ) → m q ≤ event_count event_closes (j ++ e ∷ []) q
    within q = let old = is.within q in let sum = event_count-append event_closes j (e ∷ []) q in omega arith

    brought : (q i a v : ℕ) → q ≢ p → Does (j ++ e ∷ []) i q (Store a v) → a / s.words ≡ n
        → BroughtToCopy (j ++ e ∷ []) p n i ↔ (event_interval_at (j ++ e ∷ []) q i < m q)
    brought q i a v apart does page = elim (slice_push_cases j e i (event q (Store a v)) does) [
      | inl old ↦
          (let number = event_count-front event_closes j (e ∷ []) i q (le_of_lt old.0) in
          let was = is.brought q i a v apart old.1 page in (
            λ b.
                (let less = was.0 (elim (brought_push s j e p n i none (page_stores_to s (j ++ e ∷ []) n i q a v does page) b) [
                  | inl o ↦ o
                  | inr last ↦ absurd (let at = last.0 in let lt = old.0 in omega arith)
                ]) in
                omega arith),
            λ less. brought_longer j (e ∷ []) p n i (was.1 (omega arith)),
          ))
      | inr new ↦ (
        λ b. absurd (elim (brought_push s j e p n i none (page_stores_to s (j ++ e ∷ []) n i q a v does page) b) [
          | inl o ↦ (let lt = into_past_within j p i (brought_past j p n i o) in let at = new.0 in omega arith)
          | inr last ↦ apart (sym (ap (λ (f : Event). f.processor) new.1) ∙ last.1)
        ]),
        λ less.
            absurd (let behind = time_of_places_interval_behind j (e ∷ []) q i (let at = new.0 in omega arith) in
            let few = is.within q in omega arith),
      )
    ]

-- a fetch brings what p's past has
pub gap_event_fetched_now : (s : Sizes) (j : List Event) (p n w r d : ℕ) (t : ℕ → ℕ) → IsTimeOf j p t
    → FetchGapBroughtUpTo s (did j p (Fetch w n r d)) p n t
gap_event_fetched_now s j p n w r d t time = record { brought = brought; within = within }
  where
    e : Event
    e = event p (Fetch w n r d)

    within : (q : ℕ) → t q ≤ event_count event_closes (j ++ e ∷ []) q
    within q = let old = time.within q in let sum = event_count-append event_closes j (e ∷ []) q in omega arith

    past : (q i a v : ℕ) → q ≢ p → Does (j ++ e ∷ []) i q (Store a v) → BroughtToCopy (j ++ e ∷ []) p n i → InPast j p i
    past q i a v apart does (inl mine) = absurd (missing_gap_not_mine (j ++ e ∷ []) p q i (Store a v) does apart mine)
    past q i a v apart does (inr x) =
        let f = x.1 in
        let fetch : Event = event p (Fetch f.0 n f.1 f.2) in
        elim (slice_push_cases j e x.0 fetch f.3) [
          | inl old ↦ into_past_back j p i x.0 (happens_before_shorter j (e ∷ []) old.0 x.2) (into_past_own j p x.0 fetch old.1 refl)
          | inr new ↦ (into_past_reaches_new j e i refl).0 (subst (HappensBefore (j ++ e ∷ []) i) new.0 x.2)
        ]

    brought : (q i a v : ℕ) → q ≢ p → Does (j ++ e ∷ []) i q (Store a v) → a / s.words ≡ n
        → BroughtToCopy (j ++ e ∷ []) p n i ↔ (event_interval_at (j ++ e ∷ []) q i < t q)
    brought q i a v apart does page = elim (slice_push_cases j e i (event q (Store a v)) does) [
      | inl old ↦
          (let number = event_count-front event_closes j (e ∷ []) i q (le_of_lt old.0) in
          let covers = pushed_time_covers_past j p q i (Store a v) t time old.1 apart in (
            λ b. (let less = covers.0 (past q i a v apart does b) in omega arith),
            λ less. inr (length j, (w, r, d, event_place_at_end j e), (into_past_reaches_new j e i refl).1 (covers.1 (omega arith))),
          ))
      | inr new ↦ absurd (apart (sym (ap (λ (f : Event). f.processor) new.1)))
    ]

-- before the first event nothing is brought
pub gap_event_fetched_start : (s : Sizes) (p n : ℕ) (m : ℕ → ℕ) → ((q : ℕ) → m q ≡ 0) → FetchGapBroughtUpTo s [] p n m
gap_event_fetched_start s p n m none = record {
  brought = λ q i a v apart does page. absurd (none-some (event q (Store a v)) does);
  within = λ q. (let zero_here = none q in omega arith);
}

-- what is in the gap, by intervals: what p's timestamp counts and its last fetch of the page didn't bring
pub gap_event_between : {s : Sizes} {j : List Event} {p n : ℕ} (q k a : ℕ) {m t : ℕ → ℕ} → FetchGapBroughtUpTo s j p n m → IsTimeOf j p t
    → q ≢ p → StoredInGapOfPageImage s j p n (q, k, a) ↔ (FetchGapStoreOfWord s j n q (k, a) × (m q ≤ k) × (k < t q))
gap_event_between {s = s} {j = j} {p = p} {n = n} q k a {m = m} {t = t} fetched time apart = (there, back)
  where
    there : StoredInGapOfPageImage s j p n (q, k, a) → FetchGapStoreOfWord s j n q (k, a) × (m q ≤ k) × (k < t q)
    there g =
        let x = g.3.store in
        let address = (page_store_same j g.0 g.2 x.does).1 in
        let page : a / s.words ≡ n = ap (λ (b : ℕ). b / s.words) address ∙ x.in_page in
        let less = (pushed_time_covers_past j p q g.0 (Store a g.1) t time g.2 apart).0 g.3.past in
        let is = g.4 in (
          ((g.0, g.1, g.2, g.4), page),
          elim (cases_lt (event_interval_at j q g.0) (m q)) [
            | inl lt ↦ absurd (((brought_gap_is s j p n g.0).0 g.3).2 ((fetched.brought q g.0 a g.1 apart g.2 page).1 lt))
            | inr le ↦ omega arith
          ],
          omega arith,
        )

    back : FetchGapStoreOfWord s j n q (k, a) × (m q ≤ k) × (k < t q) → StoredInGapOfPageImage s j p n (q, k, a)
    back h =
        let x = h.0.0 in
        let page = h.0.1 in
        let is = x.3 in
        let le = h.1 in
        let lt = h.2 in (
          x.0,
          x.1,
          x.2,
          (brought_gap_is s j p n x.0).1 (
            (pushed_time_covers_past j p q x.0 (Store a x.1) t time x.2 apart).1 (omega arith),
            page_stores_to s j n x.0 q a x.1 x.2 page,
            λ b. let less = (fetched.brought q x.0 a x.1 apart x.2 page).0 b in omega arith,
          ),
          x.3,
        )

-- one's own stores are in no gap of one's
pub gap_event_not_own : (s : Sizes) (j : List Event) (p n k a : ℕ) → ¬ StoredInGapOfPageImage s j p n (p, k, a)
gap_event_not_own s j p n k a g = missing_gaps_apart g.3 g.2 refl
