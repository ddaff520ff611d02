-- What a fetch brings of a word. A store of another processor to the page is in the gap where the number of its interval
-- lies between the fetch's timestamps (`brought_store_between`). Of one processor's stores the last of these is applied last,
-- since its intervals are closed in order (`brought_store_last`); of all it is found by comparing (`brought_store_applied_next`).
use Rattle.std.proofs.Common.{◌≡◌, ◌≢◌, ℕ, ◌+◌, ◌/◌, ◌<◌, ◌≤◌, ◌↔◌, inl, inr, List, Option, Some, length, slice_get, slice_index, take, subst, sym, refl, ap, ◌∙◌, arith}
use Rattle.std.specs.Prelude.{None}
use Rattle.std.proofs.lemmas.Bool.{cases_eq, cases_lt}
use Rattle.std.proofs.lemmas.Option.{same_Some}
use Rattle.base.proofs.SlicesAndCounts.{slice_get-take, slice_get-take_within}
use Rattle.journal.specs.declared.event.Event.{Event}
use Rattle.journal.specs.declared.event.Kind.TheVariants.{Fetch, Store}
use Rattle.journal.specs.PageImages.{InGap}
use Rattle.journal.specs.DidEvent.{event}
use Rattle.journal.specs.Events.{event_count, event_interval_at, event_closes}
use Rattle.journal.specs.Sizes.{Sizes}
use Rattle.journal.specs.Times.{IsTimeOf}
use Rattle.journal.specs.WellFormed.{Does}
use Rattle.journal.proofs.CopyOfPage.Brought.{brought_gap_is}
use Rattle.journal.proofs.CopyOfPage.PageStores.{page_stores_to}
use Rattle.journal.proofs.Missing.MissingGaps.{missing_gaps_apart}
use Rattle.journal.proofs.Order.EventPlacesAndCounts.{event_place_inside, event_count-mono, event_count-past, event_count-front-le}
use Rattle.journal.proofs.Times.PushedTimes.{pushed_time_covers_past}
use Rattle.judge.specs.FetchGaps.{FetchGapBroughtUpTo}
use Rattle.causes.specs.declared.brought.Applied.{Applied}
use Rattle.causes.specs.declared.brought.PageFetch.{PageFetch}
use Rattle.causes.specs.declared.store_rows.NumberedStore.{NumberedStore}
use Rattle.causes.specs.Index.{IsIndexedClosing}
use Rattle.journal.specs.OriginWrites.{OriginWritesBefore, IsOriginWriteBrought}
use Rattle.causes.specs.FetchedOrigins.{IsFetchedOriginFetch, IsFetchedOriginLastApplied, IsFetchedOriginLaterApplied, FetchedOriginLastApplied}
use Rattle.causes.specs.NumberedStores.{AreNumberedStoresBelow, IsLastNumberedStoreUnder, NoNumberedStoreUnder}
use Rattle.causes.proofs.FreshNews.{fresh_news_number_in_front}
use Rattle.causes.proofs.StoreRowSteps.{store_row_intervals_rise}

-- a fetch of the page of a, and a processor that isn't its reader
pub record IsBroughtStoreFetch (s : Sizes) (j : List Event) (x : PageFetch) (a q : ℕ) : Type 0 where
  pub fetch : IsFetchedOriginFetch s j x
  pub page : a / s.words ≡ x.page
  pub apart : q ≢ x.reader

-- in a fetch's gap are the stores of others to its page that its processor's timestamp counts and its last fetch doesn't
brought_store_gap_between : {s : Sizes} {j : List Event} {x : PageFetch} {a q : ℕ} (i v : ℕ) → IsBroughtStoreFetch s j x a q
    → Does j i q (Store a v)
    → InGap s (take x.place j) x.reader x.page i
    ↔ ((slice_index x.from q ≤ event_interval_at j q i) × (event_interval_at j q i < slice_index x.to q))
brought_store_gap_between {s} {j} {x} {a} {q} i v from does = (there, back)
  where
    m : ℕ
    m = x.place

    h : List Event
    h = take m j

    f : ℕ → ℕ
    f = slice_index x.from

    t : ℕ → ℕ
    t = slice_index x.to

    fetched : FetchGapBroughtUpTo s h x.reader x.page f
    fetched = from.fetch.from

    time : IsTimeOf h x.reader t
    time = from.fetch.to

    front : i < m → Does h i q (Store a v)
    front lt = slice_get-take j m i lt ∙ does

    there : InGap s h x.reader x.page i → (f q ≤ event_interval_at j q i) × (event_interval_at j q i < t q)
    there g =
        let low : i < m = within_front i g in
        let here = front low in
        let same = fresh_news_number_in_front j m q i (omega arith) in
        let less = (pushed_time_covers_past h x.reader q i (Store a v) t time here from.apart).0 g.past in (
          elim (cases_lt (event_interval_at h q i) (f q)) [
            | inl before ↦
                absurd (((brought_gap_is s h x.reader x.page i).0 g).2
                ((fetched.brought q i a v from.apart here from.page).1 before))
            | inr le ↦ omega arith
          ],
          omega arith,
        )
      where
        within_front : (k : ℕ) → InGap s h x.reader x.page k → k < m
        within_front k y = slice_get-take_within j m k (event y.store.by (Store y.store.address y.store.value)) y.store.does

    back : (f q ≤ event_interval_at j q i) × (event_interval_at j q i < t q) → InGap s h x.reader x.page i
    back r =
        let least = r.0 in
        let most = r.1 in
        let low : i < m = elim (cases_lt i m) [
          | inl lt ↦ lt
          | inr le ↦
              (let up = event_count-mono event_closes j m i q le in
              let counted = time.within q in
              absurd (omega arith))
        ] in
        let here = front low in
        let same = fresh_news_number_in_front j m q i (omega arith) in
        (brought_gap_is s h x.reader x.page i).1 (
          (pushed_time_covers_past h x.reader q i (Store a v) t time here from.apart).1 (omega arith),
          page_stores_to s h x.page i q a v here from.page,
          λ b. (let less = (fetched.brought q i a v from.apart here from.page).0 b in omega arith),
        )

-- p's own stores are not brought
pub brought_store_not_own : (s : Sizes) (j : List Event) (p a m q i c : ℕ) → q ≡ p → ¬ IsOriginWriteBrought s j p a m q i c
brought_store_not_own s j p a m q i c mine x =
    let low =
    slice_get-take_within j m i (event x.gap.store.by (Store x.gap.store.address x.gap.store.value)) x.gap.store.does in
    missing_gaps_apart x.gap (slice_get-take j m i low ∙ x.does) mine

-- the number of a brought store's interval lies between the fetch's timestamps
pub brought_store_between : {s : Sizes} {j : List Event} {x : PageFetch} {a q : ℕ} (i c : ℕ) → IsBroughtStoreFetch s j x a q
    → IsOriginWriteBrought s j x.reader a x.place q i c
    → (slice_index x.from q ≤ event_interval_at j q i) × (event_interval_at j q i < slice_index x.to q)
brought_store_between {s} {j} {x} {a} {q} i c from b =
    (brought_store_gap_between i b.value from b.does).0
    (subst (λ n. InGap s (take x.place j) x.reader n i) from.page b.gap)

-- and one that lies there is brought
pub brought_store_if_between : {s : Sizes} {j : List Event} {x : PageFetch} {a q : ℕ} (i v c : ℕ) → IsBroughtStoreFetch s j x a q
    → Does j i q (Store a v) → slice_index x.from q ≤ event_interval_at j q i → event_interval_at j q i < slice_index x.to q
    → IsIndexedClosing j q (event_interval_at j q i) c → IsOriginWriteBrought s j x.reader a x.place q i c
brought_store_if_between {s} {j} {x} {a} {q} i v c from does least most closing = record {
  fetches =
      (let f = from.fetch.fetches in
      subst (λ n. (w : ℕ) × (r : ℕ) × (d : ℕ) × Does j x.place x.reader (Fetch w n r d)) (sym from.page) f);
  value = v;
  does = does;
  gap =
      subst (λ n. InGap s (take x.place j) x.reader n i) (sym from.page)
      ((brought_store_gap_between i v from does).1 (least, most));
  closes = closing.closes;
  interval = closing.number;
}

-- an interval of a processor's that lies in a fetch is one that it closes
pub brought_store_fetched_closed : (s : Sizes) (j : List Event) (x : PageFetch) (q n : ℕ) → IsFetchedOriginFetch s j x
    → n < slice_index x.to q → n < event_count event_closes j q
brought_store_fetched_closed s j x q n fetch lt =
    let most = fetch.to.within q in
    let le = event_count-front-le event_closes j x.place q in
    omega arith

-- of one's stores below the limit the last is applied last
pub brought_store_last : {s : Sizes} {j : List Event} {x : PageFetch} {a q : ℕ} {stores : List NumberedStore} (c : ℕ)
    → (y : NumberedStore) → IsBroughtStoreFetch s j x a q → AreNumberedStoresBelow j a q (length j) stores
    → IsLastNumberedStoreUnder stores (slice_index x.to q) y → slice_index x.from q ≤ y.interval
    → IsIndexedClosing j q y.interval c
    → IsFetchedOriginLastApplied s j x.reader a x.place (λ r. r ≡ q) (record { store = y.place; closed = c })
brought_store_last {s} {j} {x} {a} {q} {stores} c y from are is least closing = record {
  by = q;
  one = refl;
  brought =
      (let here = are.each is.index y is.at in
      let number = here.interval in
      let under = is.under in
      brought_store_if_between y.place here.value c from here.does (omega arith) (omega arith)
      (subst (λ n. IsIndexedClosing j q n c) number closing));
  last = λ r i d mine b later.
      (let other : IsOriginWriteBrought s j x.reader a x.place q i d =
      subst (λ w. IsOriginWriteBrought s j x.reader a x.place w i d) mine b in
      not_later i d other later);
}
  where
    not_later : (i d : ℕ) → IsOriginWriteBrought s j x.reader a x.place q i d → ¬ OriginWritesBefore y.place c i d
    not_later i d b later =
        let between = brought_store_between i d from b in
        let to = between.1 in
        let z = are.all i b.value (within i b.value b.does) b.does in
        let there = are.each z.0 z.1 z.2 in
        let number : z.1.interval ≡ event_interval_at j q i = there.interval ∙ ap (event_interval_at j q) z.3 in
        elim (cases_lt is.index z.0) [
          | inl behind ↦ (let high = is.later z.0 z.1 behind z.2 in omega arith)
          | inr up ↦ elim (cases_eq z.0 is.index) [
            | inl same ↦
                (let one : z.1 ≡ y =
                same_Some z.1 y (sym z.2 ∙ ap (slice_get stores) same ∙ is.at) in
                let place = ap (λ (w : NumberedStore). w.place) one in
                let at = z.3 in
                let interval = ap (λ (w : NumberedStore). w.interval) one in
                no_later i d (omega arith) (omega arith) b later)
            | inr less ↦
                (let rise = are.rising z.0 is.index z.1 y (omega arith) z.2 is.at in
                let at = z.3 in
                let here = (are.each is.index y is.at).interval in
                let le = event_count-mono event_closes j i y.place q (omega arith) in
                no_later i d (omega arith) (omega arith) b later)
          ]
        ]
      where
        within : (k w : ℕ) → Does j k q (Store a w) → k < length j
        within k w does = event_place_inside j k (event q (Store a w)) does

        no_later : (k e : ℕ) → k ≤ y.place → event_interval_at j q k ≤ y.interval
            → IsOriginWriteBrought s j x.reader a x.place q k e → ¬ OriginWritesBefore y.place c k e
        no_later k e le low b (inl lt) =
            let up = event_count-past event_closes j c e q closing.closes.kind closing.closes.does closing.closes.closes lt in
            let one = closing.number in
            let two = b.interval in
            omega arith
        no_later k e le low b (inr w) = let lt = w.1 in omega arith

-- where one has none below the limit, or the last of these lies before the last fetch, none of its stores is brought
pub brought_store_none : {s : Sizes} {j : List Event} {x : PageFetch} {a q : ℕ} {stores : List NumberedStore}
    → IsBroughtStoreFetch s j x a q → AreNumberedStoresBelow j a q (length j) stores → NoNumberedStoreUnder stores (slice_index x.to q)
    → (i c : ℕ) → ¬ IsOriginWriteBrought s j x.reader a x.place q i c
brought_store_none {s} {j} {x} {a} {q} {stores} from are none i c b =
    let between = brought_store_between i c from b in
    let to = between.1 in
    let z = are.all i b.value (event_place_inside j i (event q (Store a b.value)) b.does) b.does in
    let there = are.each z.0 z.1 z.2 in
    let number : z.1.interval ≡ event_interval_at j q i = there.interval ∙ ap (event_interval_at j q) z.3 in
    let high = none z.0 z.1 z.2 in
    omega arith

pub brought_store_none_since : {s : Sizes} {j : List Event} {x : PageFetch} {a q : ℕ} {stores : List NumberedStore}
    → (y : NumberedStore) → IsBroughtStoreFetch s j x a q → AreNumberedStoresBelow j a q (length j) stores
    → IsLastNumberedStoreUnder stores (slice_index x.to q) y → y.interval < slice_index x.from q
    → (i c : ℕ) → ¬ IsOriginWriteBrought s j x.reader a x.place q i c
brought_store_none_since {s} {j} {x} {a} {q} {stores} y from are is low i c b =
    let between = brought_store_between i c from b in
    let least = between.0 in
    let to = between.1 in
    let z = are.all i b.value (event_place_inside j i (event q (Store a b.value)) b.does) b.does in
    let there = are.each z.0 z.1 z.2 in
    let number : z.1.interval ≡ event_interval_at j q i = there.interval ∙ ap (event_interval_at j q) z.3 in
    elim (cases_lt is.index z.0) [
      | inl behind ↦ (let high = is.later z.0 z.1 behind z.2 in omega arith)
      | inr up ↦
          (let rises = store_row_intervals_rise j a q (length j) stores are in
          elim (cases_eq z.0 is.index) [
            | inl same ↦
                (let one : z.1 ≡ y = same_Some z.1 y (sym z.2 ∙ ap (slice_get stores) same ∙ is.at) in
                let interval = ap (λ (w : NumberedStore). w.interval) one in
                omega arith)
            | inr less ↦ (let rise = rises z.0 is.index z.1 y (omega arith) z.2 is.at in omega arith)
          ])
    ]

-- what is applied before one that isn't applied after a third is applied before that
brought_store_applied_under : (i c k d l e : ℕ) → OriginWritesBefore i c l e → ¬ OriginWritesBefore k d l e → OriginWritesBefore i c k d
brought_store_applied_under i c k d l e (inl lt) other = elim (cases_lt d e) [
  | inl less ↦ absurd (other (inl less))
  | inr le ↦ inl (omega arith)
]
brought_store_applied_under i c k d l e (inr w) other = elim (cases_lt d e) [
  | inl less ↦ absurd (other (inl less))
  | inr le ↦ elim (cases_eq e d) [
    | inl is ↦ elim (cases_lt k l) [
      | inl less ↦ absurd (other (inr (sym is, less)))
      | inr up ↦ (let same = w.0 in let low = w.1 in inr (same ∙ is, omega arith))
    ]
    | inr isnt ↦ (let same = w.0 in inl (omega arith))
  ]
]

-- and before what that is applied before
brought_store_applied_longer : (i c k d l e : ℕ) → OriginWritesBefore i c k d → OriginWritesBefore k d l e → OriginWritesBefore i c l e
brought_store_applied_longer i c k d l e (inl lt) (inl less) = inl (omega arith)
brought_store_applied_longer i c k d l e (inl lt) (inr w) = let same = w.0 in inl (omega arith)
brought_store_applied_longer i c k d l e (inr w) (inl less) = let same = w.0 in inl (omega arith)
brought_store_applied_longer i c k d l e (inr w) (inr z) = let low = w.1 in let high = z.1 in inr (w.0 ∙ z.0, omega arith)

-- of no processors there is none
pub brought_store_applied_start : (s : Sizes) (j : List Event) (p a m : ℕ) → FetchedOriginLastApplied s j p a m (λ q. q < 0) None
brought_store_applied_start s j p a m q i c low = absurd (omega arith)

-- the last of those of processors below n, that of n, and the later of the two
pub record BroughtStoreAppliedUpTo (s : Sizes) (j : List Event) (p a m n : ℕ) (o b r : Option Applied) : Type 0 where
  pub later : IsFetchedOriginLaterApplied o b r
  pub below : FetchedOriginLastApplied s j p a m (λ q. q < n) o
  pub own : FetchedOriginLastApplied s j p a m (λ q. q ≡ n) b

-- the later of the two is that of processors below n + 1
pub brought_store_applied_next : {s : Sizes} {j : List Event} {p a m n : ℕ} (o b r : Option Applied)
    → BroughtStoreAppliedUpTo s j p a m n o b r → FetchedOriginLastApplied s j p a m (λ q. q < n + 1) r
brought_store_applied_next {s} {j} {p} {a} {m} {n} None None r x =
    subst (FetchedOriginLastApplied s j p a m (λ q. q < n + 1)) (sym x.later)
    (λ q i c low. elim (cases_eq q n) [ inl same ↦ x.own q i c same | inr isnt ↦ x.below q i c (omega arith) ])
brought_store_applied_next {s} {j} {p} {a} {m} {n} None (Some y) r x =
    subst (FetchedOriginLastApplied s j p a m (λ q. q < n + 1)) (sym x.later) (record {
      by = x.own.by;
      one = (let same = x.own.one in omega arith);
      brought = x.own.brought;
      last = λ q i c low z. elim (cases_eq q n) [
        | inl same ↦ x.own.last q i c same z
        | inr isnt ↦ absurd (x.below q i c (omega arith) z)
      ];
    })
brought_store_applied_next {s} {j} {p} {a} {m} {n} (Some y) None r x =
    subst (FetchedOriginLastApplied s j p a m (λ q. q < n + 1)) (sym x.later) (record {
      by = x.below.by;
      one = (let low = x.below.one in omega arith);
      brought = x.below.brought;
      last = λ q i c low z. elim (cases_eq q n) [
        | inl same ↦ absurd (x.own q i c same z)
        | inr isnt ↦ x.below.last q i c (omega arith) z
      ];
    })
brought_store_applied_next {s} {j} {p} {a} {m} {n} (Some y) (Some z) r x = elim x.later [
  | inl first ↦
      subst (FetchedOriginLastApplied s j p a m (λ q. q < n + 1)) (sym first.0) (record {
        by = x.below.by;
        one = (let low = x.below.one in omega arith);
        brought = x.below.brought;
        last = λ q i c low b later. elim (cases_eq q n) [
          | inl same ↦
              first.1 (brought_store_applied_under y.store y.closed z.store z.closed i c later (x.own.last q i c same b))
          | inr isnt ↦ x.below.last q i c (omega arith) b later
        ];
      })
  | inr second ↦
      subst (FetchedOriginLastApplied s j p a m (λ q. q < n + 1)) (sym second.0) (record {
        by = x.own.by;
        one = (let same = x.own.one in omega arith);
        brought = x.own.brought;
        last = λ q i c low b later. elim (cases_eq q n) [
          | inl same ↦ x.own.last q i c same b later
          | inr isnt ↦
              x.below.last q i c (omega arith) b
              (brought_store_applied_longer y.store y.closed z.store z.closed i c second.1 later)
        ];
      })
]
