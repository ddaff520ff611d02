-- The closed intervals under one more event, and under trimming.
use Rattle.std.proofs.Common.{◌≡◌, ◌≢◌, ◌&&◌, nat_le, nat_lt, ℕ, zero, suc, ◌+◌, ◌<◌, ◌≤◌, min, max, ◌⊎◌, inl, inr, List, [], ◌∷◌, ◌++◌, length, filter, Bool, cond, not, true, false, Some, IsTrue, slice_get, slice_set, slice_index, slice_index_or, fold, subst, subst₂, sym, refl, ap, ◌∙◌, arith}
use Rattle.std.specs.List.{flat_map}
use Rattle.std.proofs.lemmas.Bool.{cases_eq, cases_lt, ne_eqb, not_from_false, and_parts, and_left, and_right, false_from_ne_true, ltb-true, lt-ltb, le-ltb, leb-true, true≢false, not-true, both_ways, eq-eqb}
use Rattle.std.proofs.lemmas.Option.{none-some, same_Some, slice_get_within}
use Rattle.std.proofs.lemmas.List.{length-set, get_or-set_same, get_or-set_other}
use Rattle.std.proofs.Math.Seq.{take-append_seam}
use Rattle.journal.specs.declared.event.Event.{Event}
use Rattle.journal.specs.declared.event.Kind.{Kind}
use Rattle.base.specs.InOrderOnce.{Has, InOrder}
use Rattle.journal.specs.Sizes.{Sizes}
use Rattle.journal.specs.Events.{event_count, event_interval_at, event_closes}
use Rattle.journal.specs.Times.{ClosesAt}
use Rattle.base.proofs.SlicesAndCounts.{slice_push_cases, slice_get-append_left, slice_get-last, slice_count_by-append, slice_count_by-within}
use Rattle.base.proofs.FilteredInOrder.{filtered_in_order_has, in_order-filter}
use Rattle.journal.proofs.Order.EventPlacesAndCounts.{event_count-front, event_count-inside}
use Rattle.journal.specs.declared.event.Kind.TheVariants.{Store}
use Rattle.journal.specs.IntervalContents.{IntervalContentHas}
use Rattle.journal.proofs.Intervals.StoreContents.{store_contents_shorter, store_contents_closing, store_contents_closed}
use Rattle.journal.specs.MissingIntervals.{missing_interval_closed_count, IsMissingIntervalPlace}
use Rattle.journal.proofs.Missing.ClosingRanks.{closing_rank_longer, closing_rank_now}
use Rattle.journal.proofs.Times.TimesOfPlaces.{time_of_places_closes_shorter, time_of_places_interval_behind}
use Rattle.page.specs.PageChanges.{PageChanges}
use Rattle.interval.specs.declared.interval.KeptInterval.{KeptInterval}
use Rattle.interval.specs.KeptClosings.{KeptClosings, kept_closings_pushed, kept_closings_trimmed_below, is_trimmed_from_kept_closings, is_news_of_kept_closings, kept_closings_between, kept_closing_sent_interval}
use Rattle.base.proofs.Filters.{filter_same}
use Rattle.journal.specs.DidEvent.{event, did}
use Rattle.book.specs.KeptIntervals.{AreIntervalContents, AreKeptIntervalsFromFirst, AreKeptIntervals, KeepsUncoveredIntervals}
use Rattle.book.specs.Transitions.{transition_lesser, transition_least, transition_trimmed_by}
use Rattle.book.proofs.Parts.LastEvents.{last_event_count, last_event_count_others, last_event_count_kept}

-- one more event, which closes an interval or doesn't
book_intervals_closed_count : (h : List Event) (p : ℕ) (k : Kind) → missing_interval_closed_count (did h p k) ≡ missing_interval_closed_count h + cond (event_closes k) 1 0
book_intervals_closed_count h p k = let sum = slice_count_by-append (λ (e : Event). event_closes e.kind) h (event p k ∷ []) in omega arith

-- the contents of a closed interval stay
book_interval_stores_before : (s : Sizes) (h es : List Event) (q k n i : ℕ) → k < event_count event_closes h q
    → IntervalContentHas s (h ++ es) q k n i → IntervalContentHas s h q k n i
book_interval_stores_before s h es q k n i lt x = elim (cases_lt i (length h)) [
  | inl less ↦ store_contents_shorter s h es q k n i less x
  | inr past ↦ (let behind = time_of_places_interval_behind h es q i past in let number = x.4 in absurd (omega arith))
]

pub book_interval_contents_longer : (s : Sizes) (h es : List Event) (q k : ℕ) (records : List PageChanges) → k < event_count event_closes h q
    → AreIntervalContents s h q k records → AreIntervalContents s (h ++ es) q k records
book_interval_contents_longer s h es q k records lt x = record {
  each = λ r has. store_contents_closed s h es q k r.page r.words lt (x.each r has);
  some = x.some;
  all = λ n i stores. x.all n i (book_interval_stores_before s h es q k n i lt stores);
  rising = x.rising;
}

-- and of the one that the event closes
book_interval_contents_closing : (s : Sizes) (h : List Event) (p : ℕ) (a : Kind) (q k : ℕ) (records : List PageChanges)
    → event_closes a ≡ true → AreIntervalContents s h q k records → AreIntervalContents s (did h p a) q k records
book_interval_contents_closing s h p a q k records closes x = record {
  each = λ r has. store_contents_closing s h (event p a) q k r.page r.words closes (x.each r has);
  some = x.some;
  all = λ n i stores. x.all n i (before n i stores);
  rising = x.rising;
}
  where
    before : (n i : ℕ) → IntervalContentHas s (did h p a) q k n i → IntervalContentHas s h q k n i
    before n i stores = elim (slice_push_cases h (event p a) i (event q (Store stores.0 stores.1)) stores.2) [
      | inl old ↦ store_contents_shorter s h (event p a ∷ []) q k n i old.0 stores
      | inr new ↦ (let none : event_closes a ≡ false = ap (λ (e : Event). event_closes e.kind) new.1 in
          absurd (true≢false (sym closes ∙ none)))
    ]

-- a kept interval's number is one of a closed interval
book_interval_number : (h : List Event) (k : KeptInterval) → IsMissingIntervalPlace h k.interval.owner k.interval.number k.place
    → k.interval.number < event_count event_closes h k.interval.owner
book_interval_number h k x = let within =
    event_count-inside event_closes h x.at k.interval.owner x.closes.kind x.closes.does x.closes.closes in let number =
    x.number in omega arith

-- what closes in a longer history closed before, or with its last event
book_interval_closes_cases : (h : List Event) (p : ℕ) (k : Kind) (q i : ℕ) → ClosesAt (did h p k) q i
    → ((i < length h) × ClosesAt h q i) ⊎ ((i ≡ length h) × (p ≡ q) × IsTrue (event_closes k))
book_interval_closes_cases h p k q i x = elim (slice_push_cases h (event p k) i (event q x.kind) x.does) [
  | inl old ↦ inl (old.0, time_of_places_closes_shorter h (event p k ∷ []) q i old.0 x)
  | inr new ↦ inr (
    new.0,
    ap (λ e. e.processor) new.1,
    subst (λ b. IsTrue (event_closes b)) (sym (ap (λ e. e.kind) new.1)) x.closes,
  )
]

-- an event that closes nothing leaves the intervals
pub book_intervals_quiet : (s : Sizes) (h : List Event) (p : ℕ) (k : Kind) (c : KeptClosings) → event_closes k ≡ false
    → AreKeptIntervals s h c → AreKeptIntervals s (did h p k) c
book_intervals_quiet s h p k c quiet x = record {
  count = let sum = book_intervals_closed_count h p k in let none = ap (λ (b : Bool). cond {A = ℕ} b 1 0) quiet in let was =
      x.count in omega arith;
  next_long = x.next_long;
  next = λ q lt. x.next q lt ∙ sym (last_event_count_kept event_closes h p k q quiet);
  first_long = x.first_long;
  from = x.from;
  each = λ j has. closing_rank_longer h (event p k ∷ []) j.interval.owner j.interval.number j.place (x.each j has);
  all = all;
  contents = λ j has. book_interval_contents_longer s h (event p k ∷ []) j.interval.owner j.interval.number j.interval.records
      (book_interval_number h j (x.each j has)) (x.contents j has);
  rising = x.rising;
}
  where
    all : (q i : ℕ) → ClosesAt (did h p k) q i → slice_index c.first q ≤ event_interval_at (did h p k) q i
        → (j : KeptInterval) × Has c.kept j × (j.interval.owner ≡ q) × (j.interval.number ≡ event_interval_at (did h p k) q i)
    all q i closes from = elim (book_interval_closes_cases h p k q i closes) [
      | inl old ↦ (
          let lt = old.0 in
          let same = event_count-front event_closes h (event p k ∷ []) i q (omega arith) in
          let j = x.all q i old.1 (omega arith) in
          (j.0, j.1, j.2, j.3 ∙ sym same))
      | inr new ↦ absurd (true≢false (sym new.2 ∙ quiet))
    ]

-- p closes its interval by this event: what the closed intervals are before, and what the new one has
pub record IsClosingBookInterval (s : Sizes) (h : List Event) (p : ℕ) (k : Kind) (c : KeptClosings) (n : ℕ) (records : List PageChanges) : Type 0 where
  pub closes : event_closes k ≡ true
  pub mine : p < s.processors
  pub number : n ≡ event_count event_closes h p
  pub covered : slice_index c.first p ≤ n
  pub stored : AreIntervalContents s h p n records
  pub before : AreKeptIntervals s h c

-- a closing event closes its processor's interval
pub book_intervals_closing : {s : Sizes} {h : List Event} {p : ℕ} {k : Kind} {c : KeptClosings} {n : ℕ} {records : List PageChanges}
    → IsClosingBookInterval s h p k c n records
    → AreKeptIntervals s (did h p k) (kept_closings_pushed c (record { owner = p; number = n; records = records }))
book_intervals_closing {s} {h} {p} {k} {c} {n} {records} now = record {
  count = let sum = book_intervals_closed_count h p k in let one = ap (λ (b : Bool). cond {A = ℕ} b 1 0) now.closes in let was =
      now.before.count in omega arith;
  next_long = length-set c.next p (n + 1) ∙ now.before.next_long;
  next = next;
  first_long = now.before.first_long;
  from = from;
  each = each;
  all = all;
  contents = contents;
  rising = rising;
}
  where
    new : KeptInterval
    new = record { place = c.pushed; interval = record { owner = p; number = n; records = records } }

    next : (q : ℕ) → q < s.processors → slice_index (slice_set c.next p (n + 1)) q ≡ event_count event_closes (did h p k) q
    next q less = elim (cases_eq q p) [
      | inl is ↦ (
          let P : ℕ → Type 0 = λ r. slice_index (slice_set c.next p (n + 1)) r ≡ event_count event_closes (did h p k) r in
          let long = now.before.next_long in
          let here = get_or-set_same c.next p (n + 1) 0 (omega (arith, now.mine)) in
          let sum = last_event_count event_closes h p k in
          let one = ap (λ (b : Bool). cond {A = ℕ} b 1 0) now.closes in
          let number = now.number in
          subst P (sym is) (omega arith))
      | inr isnt ↦ get_or-set_other c.next p q (n + 1) 0 isnt ∙ now.before.next q less
          ∙ sym (last_event_count_others event_closes h p k q isnt)
    ]

    front : event_interval_at (did h p k) p (length h) ≡ n
    front = ap (λ (xs : List Event). event_count event_closes xs p) (take-append_seam h (event p k ∷ [])) ∙ sym now.number

    is_new : IsMissingIntervalPlace (did h p k) p n c.pushed
    is_new = subst₂ (IsMissingIntervalPlace (did h p k) p) (sym now.number) (sym now.before.count) (closing_rank_now h (event p k) now.closes)

    from : (j : KeptInterval) → Has (c.kept ++ new ∷ []) j → slice_index c.first j.interval.owner ≤ j.interval.number
    from j has = elim (slice_push_cases c.kept new has.0 j has.1) [
      | inl old ↦ now.before.from j (has.0, old.1)
      | inr last ↦ subst (λ (y : KeptInterval). slice_index c.first y.interval.owner ≤ y.interval.number) last.1 now.covered
    ]

    each : (j : KeptInterval) → Has (c.kept ++ new ∷ []) j → IsMissingIntervalPlace (did h p k) j.interval.owner j.interval.number j.place
    each j has = elim (slice_push_cases c.kept new has.0 j has.1) [
      | inl old ↦ closing_rank_longer h (event p k ∷ []) j.interval.owner j.interval.number j.place (now.before.each j (has.0, old.1))
      | inr last ↦ subst (λ (y : KeptInterval). IsMissingIntervalPlace (did h p k) y.interval.owner y.interval.number y.place) last.1 is_new
    ]

    all : (q i : ℕ) → ClosesAt (did h p k) q i → slice_index c.first q ≤ event_interval_at (did h p k) q i
        → (j : KeptInterval) × Has (c.kept ++ new ∷ []) j × (j.interval.owner ≡ q)
        × (j.interval.number ≡ event_interval_at (did h p k) q i)
    all q i at from = elim (book_interval_closes_cases h p k q i at) [
      | inl old ↦ (
          let less = old.0 in
          let same = event_count-front event_closes h (event p k ∷ []) i q (omega arith) in
          let j = now.before.all q i old.1 (omega arith) in (
            j.0,
            (
              j.1.0,
              slice_get-append_left c.kept (new ∷ []) j.1.0 (slice_get_within c.kept j.1.0 j.0 j.1.1)
                  ∙ j.1.1,
            ),
            j.2,
            j.3 ∙ sym same,
          ))
      | inr last ↦ (
          let P : ℕ → ℕ → Type 0 = λ r m. n ≡ event_interval_at (did h p k) r m in (
            new,
            (length c.kept, slice_get-last c.kept new),
            last.1,
            subst (λ m. P q m) (sym last.0) (subst (λ r. P r (length h)) last.1 (sym front)),
          ))
    ]

    contents : (j : KeptInterval) → Has (c.kept ++ new ∷ []) j
        → AreIntervalContents s (did h p k) j.interval.owner j.interval.number j.interval.records
    contents j has = elim (slice_push_cases c.kept new has.0 j has.1) [
      | inl old ↦ book_interval_contents_longer s h (event p k ∷ []) j.interval.owner j.interval.number j.interval.records
          (book_interval_number h j (now.before.each j (has.0, old.1))) (now.before.contents j (has.0, old.1))
      | inr last ↦ subst (λ (y : KeptInterval). AreIntervalContents s (did h p k)
          y.interval.owner y.interval.number y.interval.records) last.1
          (book_interval_contents_closing s h p k p n records now.closes now.stored)
    ]

    below : (j : KeptInterval) → Has c.kept j → j.place < c.pushed
    below j has =
        let old = now.before.each j has in
        let within = slice_count_by-within (λ (e : Event). event_closes e.kind) h old.at
        (event j.interval.owner old.closes.kind) old.closes.does old.closes.closes in
        let place = old.before in
        let count = now.before.count in
        omega arith

    rising : InOrder (λ (a b : KeptInterval). a.place < b.place) (c.kept ++ new ∷ [])
    rising y z a b less at to = elim (slice_push_cases c.kept new z b to) [
      | inl two ↦ elim (slice_push_cases c.kept new y a at) [
        | inl one ↦ now.before.rising y z a b less one.1 two.1
        | inr one ↦ absurd (omega (arith, one.0, two.0))
      ]
      | inr two ↦ elim (slice_push_cases c.kept new y a at) [
        | inl one ↦ subst (λ (w : KeptInterval). a.place < w.place) two.1 (below a (y, one.1))
        | inr one ↦ absurd (omega (arith, one.0, two.0))
      ]
    ]

-- where nothing is news, nothing is news
book_interval_not_news : (old new : List ℕ) (k : KeptInterval) → slice_index new k.interval.owner ≤ slice_index old k.interval.owner
    → is_news_of_kept_closings old new k ≡ false
book_interval_not_news old new k le = false_from_ne_true (is_news_of_kept_closings old new k) (λ e. (
    let parts = and_parts _ _ e in
    let from : slice_index old k.interval.owner ≤ k.interval.number = leb-true _ _ parts.0 in
    let below : k.interval.number < slice_index new k.interval.owner = ltb-true _ _ parts.1 in
    absurd (omega arith)))

-- two that differ in intervals alone that aren't covered are sent the same
pub book_intervals_between_same : (c : KeptClosings) (one other new : List ℕ) (p : ℕ)
    → ((q : ℕ) → q ≢ p → slice_index one q ≡ slice_index other q) → slice_index new p ≤ slice_index one p
    → slice_index new p ≤ slice_index other p → kept_closings_between c one new ≡ kept_closings_between c other new
book_intervals_between_same c one other new p same here there =
    ap (λ (ks : List KeptInterval). flat_map kept_closing_sent_interval ks)
    (filter_same (is_news_of_kept_closings one new) (is_news_of_kept_closings other new) c.kept (λ k has. each k))
  where
    each : (k : KeptInterval) → is_news_of_kept_closings one new k ≡ is_news_of_kept_closings other new k
    each k = elim (cases_eq k.interval.owner p) [
      | inl is ↦ (
          let P : List ℕ → ℕ → Type 0 = λ t q. slice_index new q ≤ slice_index t q in
          book_interval_not_news one new k (subst (P one) (sym is) here)
          ∙ sym (book_interval_not_news other new k (subst (P other) (sym is) there)))
      | inr apart ↦ ap (λ (n : ℕ). nat_le n k.interval.number && nat_lt k.interval.number
          (slice_index new k.interval.owner)) (same k.interval.owner apart)
    ]

-- what is from its owner's first on isn't trimmed below that
pub book_intervals_stay_from : (c : KeptClosings) (owner to : ℕ) (k : KeptInterval) → to ≤ slice_index c.first owner
    → slice_index c.first k.interval.owner ≤ k.interval.number → not (is_trimmed_from_kept_closings owner to k) ≡ true
book_intervals_stay_from c owner to k le from = elim (cases_eq k.interval.owner owner) [
  | inl is ↦ (
      let P : ℕ → Type 0 = λ q. slice_index c.first q ≤ k.interval.number in
      let here = subst P is from in
      not_from_false (is_trimmed_from_kept_closings owner to k) (and_right _ _ (le-ltb k.interval.number to (omega arith))))
  | inr isnt ↦ not_from_false (is_trimmed_from_kept_closings owner to k) (and_left _ _ (ne_eqb k.interval.owner owner isnt))
]

-- the first kept interval after a trim, of its owner and of others
pub book_interval_first_own : (c : KeptClosings) (owner to : ℕ) → owner < length c.first
    → slice_index (kept_closings_trimmed_below c owner to).first owner ≡ max (slice_index c.first owner) (min to (slice_index c.next owner))
book_interval_first_own c owner to lt =
    get_or-set_same c.first owner (max (slice_index c.first owner) (min to (slice_index c.next owner))) 0 lt

pub book_interval_first_others : (c : KeptClosings) (owner to q : ℕ) → q ≢ owner
    → slice_index (kept_closings_trimmed_below c owner to).first q ≡ slice_index c.first q
book_interval_first_others c owner to q isnt =
    get_or-set_other c.first owner q (max (slice_index c.first owner) (min to (slice_index c.next owner))) 0 isnt

-- a trim leaves nothing below what it says is dropped
pub book_intervals_from_first_trimmed : (c : KeptClosings) (owner to : ℕ) → owner < length c.first → AreKeptIntervalsFromFirst c
    → AreKeptIntervalsFromFirst (kept_closings_trimmed_below c owner to)
book_intervals_from_first_trimmed c owner to lt from k has =
    let was = (filtered_in_order_has (λ k. not (is_trimmed_from_kept_closings owner to k)) c.kept k).0 has in
    let old = from k was.0 in
    elim (cases_eq k.interval.owner owner) [
      | inl is ↦ (
          let P : ℕ → Type 0 = λ q. slice_index (kept_closings_trimmed_below c owner to).first q ≤ k.interval.number in
          let Q : ℕ → Type 0 = λ q. slice_index c.first q ≤ k.interval.number in
          let here = book_interval_first_own c owner to lt in
          let from_here = subst Q is old in
          let stays : to ≤ k.interval.number = elim (cases_lt k.interval.number to) [
            | inl less ↦ absurd
                (both_ways (is_trimmed_from_kept_closings owner to k) (not-true (is_trimmed_from_kept_closings owner to k) was.1)
                (ap (λ b. b && nat_lt k.interval.number to) (eq-eqb k.interval.owner owner is)
                ∙ lt-ltb k.interval.number to less))
            | inr most ↦ most
          ] in
          subst P (sym is) (omega arith))
      | inr isnt ↦ (let same = book_interval_first_others c owner to k.interval.owner isnt in omega arith)
    ]

-- a trim keeps what the intervals are
pub book_intervals_trimmed : (s : Sizes) (h : List Event) (c : KeptClosings) (owner to : ℕ) → owner < s.processors
    → AreKeptIntervals s h c → AreKeptIntervals s h (kept_closings_trimmed_below c owner to)
book_intervals_trimmed s h c owner to lt x = record {
  count = x.count;
  next_long = x.next_long;
  next = x.next;
  first_long = length-set c.first owner (max (slice_index c.first owner) (min to (slice_index c.next owner)))
      ∙ x.first_long;
  from = book_intervals_from_first_trimmed c owner to (subst (λ n. owner < n) (sym x.first_long) lt) x.from;
  each = λ k has. x.each k (old k has);
  all = all;
  contents = λ k has. x.contents k (old k has);
  rising = in_order-filter (λ (j k : KeptInterval). j.place < k.place) (λ k. not (is_trimmed_from_kept_closings owner to k)) c.kept x.rising;
}
  where
    old : (k : KeptInterval) → Has (filter (λ k. not (is_trimmed_from_kept_closings owner to k)) c.kept) k → Has c.kept k
    old k has = ((filtered_in_order_has (λ k. not (is_trimmed_from_kept_closings owner to k)) c.kept k).0 has).0

    stays : (k : KeptInterval) → Has c.kept k → not (is_trimmed_from_kept_closings owner to k) ≡ true
        → Has (filter (λ k. not (is_trimmed_from_kept_closings owner to k)) c.kept) k
    stays k has not_trimmed = (filtered_in_order_has (λ k. not (is_trimmed_from_kept_closings owner to k)) c.kept k).1 (has, not_trimmed)

    all : (q i : ℕ) → ClosesAt h q i → slice_index (kept_closings_trimmed_below c owner to).first q ≤ event_interval_at h q i
        → (k : KeptInterval) × Has (filter (λ k. not (is_trimmed_from_kept_closings owner to k)) c.kept) k × (k.interval.owner ≡ q)
        × (k.interval.number ≡ event_interval_at h q i)
    all q i closes from = elim (cases_eq q owner) [
      | inl is ↦ (
          let P : ℕ → Type 0 = λ r. slice_index (kept_closings_trimmed_below c owner to).first r ≤ event_interval_at h q i in
          let long = x.first_long in
          let here = book_interval_first_own c owner to (omega arith) in
          let from_here = subst P is from in
          let Q : ℕ → Type 0 = λ r. slice_index c.first r ≤ event_interval_at h q i in
          let k = x.all q i closes (subst Q (sym is) (omega arith)) in
          let within = event_count-inside event_closes h i q closes.kind closes.does closes.closes in
          let next = x.next q (subst (λ r. r < s.processors) (sym is) lt) in
          let R : ℕ → Type 0 = λ r. slice_index c.next r ≡ event_count event_closes h q in
          let next_here = subst R is next in
          let number = k.3 in (
            k.0,
            stays k.0 k.1
                (not_from_false (is_trimmed_from_kept_closings owner to k.0)
                (and_right _ _ (le-ltb k.0.interval.number to (omega arith)))),
            k.2,
            k.3,
          ))
      | inr isnt ↦ (
          let same = book_interval_first_others c owner to q isnt in
          let k = x.all q i closes (omega arith) in (
            k.0,
            stays k.0 k.1
                (not_from_false (is_trimmed_from_kept_closings owner to k.0)
                (and_left _ _ (ne_eqb k.0.interval.owner owner (λ e. isnt (sym k.2 ∙ e))))),
            k.2,
            k.3,
          ))
    ]

pub book_intervals_covered_trimmed : (c : KeptClosings) (owner to : ℕ) (times : List (List ℕ))
    → ((p : ℕ) (t : List ℕ) → slice_get times p ≡ Some t → to ≤ slice_index t owner) → owner < length c.first
    → KeepsUncoveredIntervals c.first times → KeepsUncoveredIntervals (kept_closings_trimmed_below c owner to).first times
book_intervals_covered_trimmed c owner to times covered lt within p q t at = elim (cases_eq q owner) [
  | inl is ↦ (
      let P : ℕ → Type 0 = λ r. slice_index (kept_closings_trimmed_below c owner to).first r ≤ slice_index t r in
      let here = book_interval_first_own c owner to lt in
      let one = covered p t at in
      let was = within p owner t at in
      subst P (sym is) (omega arith))
  | inr isnt ↦ (
      let same = book_interval_first_others c owner to q isnt in
      let was = within p q t at in
      omega arith)
]

book_interval_lesser_le : (times : List (List ℕ)) (q n : ℕ) → fold (transition_lesser q) n times ≤ n
book_interval_lesser_le [] q n = omega arith
book_interval_lesser_le (t ∷ ts) q n = let rest = book_interval_lesser_le ts q (transition_lesser q n t) in omega arith

book_interval_lesser_each : (times : List (List ℕ)) (q n p : ℕ) (t : List ℕ) → slice_get times p ≡ Some t
    → fold (transition_lesser q) n times ≤ slice_index t q
book_interval_lesser_each [] q n p t at = absurd (none-some t at)
book_interval_lesser_each (u ∷ ts) q n zero t at = let rest =
    book_interval_lesser_le ts q (transition_lesser q n u) in
    subst (λ v. fold (transition_lesser q) (transition_lesser q n u) ts ≤ slice_index v q) (same_Some u t at) (omega arith)
book_interval_lesser_each (u ∷ ts) q n (suc p) t at = book_interval_lesser_each ts q (transition_lesser q n u) p t at

-- the least entry is one that each covers
pub book_interval_least_le : (times : List (List ℕ)) (q p : ℕ) (t : List ℕ) → slice_get times p ≡ Some t
    → transition_least times q ≤ slice_index t q
book_interval_least_le times q p t at = book_interval_lesser_each times q (slice_index (slice_index_or times 0 []) q) p t at

-- trims keep the number of owners
pub length-transition_trimmed_by : (c : KeptClosings) (times : List (List ℕ)) (n : ℕ)
    → length (transition_trimmed_by c times n).first ≡ length c.first
length-transition_trimmed_by c times zero = refl
length-transition_trimmed_by c times (suc n) = let old =
    transition_trimmed_by c times n in
    length-set old.first n (max (slice_index old.first n) (min (transition_least times n) (slice_index old.next n)))
    ∙ length-transition_trimmed_by c times n
