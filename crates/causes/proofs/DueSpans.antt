-- What copies lack, by intervals. What a fetch brings lies between the timestamps of the last fetch and now (`due_span_in_fetch`). What
-- an event that takes adds lies between its timestamps before and after (`due_span_in_taken`): such an interval was in no gap before,
-- for the processor's past didn't have it. Any other event adds nothing (`due_span_quiet`).
use Rattle.std.proofs.Common.{◌≡◌, ◌≢◌, ℕ, ◌+◌, ◌*◌, ◌/◌, ◌<◌, ◌≤◌, ◌↔◌, inl, inr, false, true, List, [], ◌∷◌, ◌++◌, Option, Some, MatchOption, length, slice_index, take, subst, sym, refl, ap, ◌∙◌, true≢false, le_of_lt, arith}
use Rattle.std.specs.Prelude.{None, Result, Ok, Err, IfOk}
use Rattle.std.specs.Global.{Vec}
use Rattle.std.proofs.lemmas.Bool.{cases_eq, cases_lt}
use Rattle.std.proofs.lemmas.Nat.{div_below}
use Rattle.std.proofs.lemmas.Option.{none-some, slice_get_within}
use Rattle.base.specs.InOrderOnce.{Has, InOrder}
use Rattle.base.proofs.SlicesAndCounts.{slice_push_cases, slice_get-append_left, slice_get-from_take, slice_get-last}
use Rattle.journal.specs.declared.event.Event.{Event}
use Rattle.journal.specs.declared.event.Kind.{Kind}
use Rattle.journal.specs.declared.event.Kind.TheVariants.{Fetch, Store}
use Rattle.journal.proofs.OwnBlocks.{IsBlock}
use Rattle.journal.specs.PageImages.{HasPageImageCount, StoredInGapOfPageImage}
use Rattle.journal.specs.DidEvent.{event}
use Rattle.journal.specs.Events.{EventAt, event_interval_at, event_closes, event_takes}
use Rattle.journal.specs.EventsInRange.{EventProcessorsInRange}
use Rattle.journal.specs.Sizes.{Sizes}
use Rattle.journal.specs.Times.{IsTimeOf}
use Rattle.journal.specs.WellFormed.{Does}
use Rattle.journal.proofs.CopyOfPage.CompleteCopies.{complete_copy_block_gap}
use Rattle.journal.proofs.CopyOfPage.PageStores.{page_store_same}
use Rattle.journal.proofs.Missing.GapsCounted.{gaps_counted_same}
use Rattle.journal.proofs.Missing.MissingGaps.{missing_gap_taken, missing_gap_stored_longer}
use Rattle.journal.proofs.Order.EventPlacesAndCounts.{event_place_inside, event_count-front}
use Rattle.journal.proofs.Passes.NextClocks.{next_clocks_front}
use Rattle.journal.proofs.Times.PushedTimes.{pushed_time_covers_past}
use Rattle.judge.specs.FetchGaps.{FetchGapBroughtUpTo, FetchGapStoreInPage}
use Rattle.judge.specs.Miscounted.{IsEventInSizes}
use Rattle.judge.specs.GapTally.{gap_tally_place_of}
use Rattle.judge.proofs.ValueCounts.{value_count_some, value_count_unique}
use Rattle.judge.proofs.GapEvents.{gap_event_not_own, gap_event_between}
use Rattle.causes.specs.declared.event_dues.Due.{Due}
use Rattle.causes.specs.declared.span.Span.{Span}
use Rattle.causes.proofs.Rows.{rows_next}
use Rattle.causes.specs.Dues.{AreAllDues, DuesBelow, AreDues, DueComesToLack, DuesByPageAndWriter, IsDueRecord, IsDueWithin, IsOneOfDues, IsDueToldBy, DueLacks}

-- the intervals of q that the span of these timestamps has, where they store in the page
abbrev pub DueSpanBetween : Sizes → List Event → ℕ → ℕ → (ℕ → ℕ) → (ℕ → ℕ) → ℕ → Type 0
DueSpanBetween s j n q f t m = FetchGapStoreInPage s j n q m × (f q ≤ m) × (m < t q)

-- the span of a fetch of page n by p that comes next: that page alone, from p's last fetch of it to now
pub record IsDueSpanOfFetch (s : Sizes) (j : List Event) (p n : ℕ) (span : Span) : Type 0 where
  pub reader : span.reader ≡ p
  pub first : span.first ≡ n
  pub end : span.end ≡ n + 1
  pub from : FetchGapBroughtUpTo s j p n (slice_index span.from)
  pub to : IsTimeOf j p (slice_index span.to)

-- the event e at place k takes, and these are its processor's timestamps before and after it
pub record DueSpanTakesAt (j : List Event) (k : ℕ) (e : Event) (f t : ℕ → ℕ) : Type 0 where
  pub at : EventAt j k e
  pub takes : event_takes e.kind ≡ true
  pub before : IsTimeOf (take k j) e.processor f
  pub after : IsTimeOf (take (k + 1) j) e.processor t

-- the span round an event that takes: all pages, and of each processor the intervals that the event gets word of
pub record IsDueSpanOfTaking (s : Sizes) (j : List Event) (k : ℕ) (e : Event) (span : Span) : Type 0 where
  pub takes : DueSpanTakesAt j k e (slice_index span.from) (slice_index span.to)
  pub reader : span.reader ≡ e.processor
  pub first : span.first ≡ 0
  pub end : span.end ≡ s.pages
  pub low : EventProcessorsInRange 16 (take (k + 1) j)
  pub pages : (n q m : ℕ) → FetchGapStoreInPage s (take (k + 1) j) n q m → n < s.pages

-- the event e at place k neither takes nor fetches
pub record HasNoDueSpanAt (j : List Event) (k : ℕ) (e : Event) : Type 0 where
  pub at : EventAt j k e
  pub takes : event_takes e.kind ≡ false
  pub fetches : (w l r d : ℕ) → e.kind ≢ Fetch w l r d

-- what another's copy lacks of q lies between its last fetch and now
pub due_span_lacks_is : {s : Sizes} {j : List Event} {p n : ℕ} {f t : ℕ → ℕ} (q m : ℕ) → q ≢ p → FetchGapBroughtUpTo s j p n f
    → IsTimeOf j p t → DueLacks s j p n q m ↔ DueSpanBetween s j n q f t m
due_span_lacks_is {s} {j} {p} {n} {f} {t} q m apart fetched time = (
  λ g. (let h = (gap_event_between q m g.0 fetched time apart).0 g.1 in ((g.0, h.0), h.1, h.2)),
  λ h. (h.0.0, (gap_event_between q m h.0.0 fetched time apart).1 (h.0.1, h.1, h.2)),
)

-- nobody lacks what it stored itself
pub due_span_lacks_not_own : (s : Sizes) (j : List Event) (p n q m : ℕ) → DueLacks s j p n q m → q ≢ p
due_span_lacks_not_own s j p n q m g is =
    gap_event_not_own s j p n m g.0 (subst (λ x. StoredInGapOfPageImage s j p n (x, m, g.0)) is g.1)

-- who stored it is a processor
pub due_span_lacks_low : (s : Sizes) (j : List Event) (p n q m : ℕ) → EventProcessorsInRange 16 j → DueLacks s j p n q m → q < 16
due_span_lacks_low s j p n q m low g = low g.1.0 (event q (Store g.0 g.1.1)) g.1.2

-- p's event of kind k behind j takes, and these are p's timestamps before and after it
record DueSpanTakesBehind (j : List Event) (p : ℕ) (k : Kind) (f t : ℕ → ℕ) : Type 0 where
  takes : event_takes k ≡ true
  before : IsTimeOf j p f
  after : IsTimeOf (j ++ event p k ∷ []) p t

-- what p comes to lack of q by an event that takes lies between its timestamps before and after it
due_span_comes_is : {j : List Event} {p : ℕ} {k : Kind} {f t : ℕ → ℕ} (s : Sizes) (n q m : ℕ) → DueSpanTakesBehind j p k f t → q ≢ p
    → (DueLacks s (j ++ event p k ∷ []) p n q m × (¬ DueLacks s j p n q m)) ↔ DueSpanBetween s (j ++ event p k ∷ []) n q f t m
due_span_comes_is {j} {p} {k} {f} {t} s n q m x apart = (there, back)
  where
    e : Event
    e = event p k

    -- a store of the history up to the event is one of before
    old : (i a v : ℕ) → Does (j ++ e ∷ []) i q (Store a v) → Does j i q (Store a v)
    old i a v does = elim (slice_push_cases j e i (event q (Store a v)) does) [
      | inl was ↦ was.1
      | inr new ↦ absurd (apart (sym (ap (λ (x : Event). x.processor) new.1)))
    ]

    number : (i a v : ℕ) → Does j i q (Store a v) → event_interval_at (j ++ e ∷ []) q i ≡ event_interval_at j q i
    number i a v does = event_count-front event_closes j (e ∷ []) i q (le_of_lt (event_place_inside j i (event q (Store a v)) does))

    there : DueLacks s (j ++ e ∷ []) p n q m × (¬ DueLacks s j p n q m) → DueSpanBetween s (j ++ e ∷ []) n q f t m
    there h =
        let a = h.0.0 in
        let i = h.0.1.0 in
        let v = h.0.1.1 in
        let does = h.0.1.2 in
        let gap = h.0.1.3 in
        let is = h.0.1.4 in
        let was = old i a v does in
        let same = number i a v was in
        let y = gap.store in
        let address = (page_store_same (j ++ e ∷ []) i does y.does).1 in
        let page : a / s.words ≡ n = ap (λ (b : ℕ). b / s.words) address ∙ y.in_page in
        elim ((missing_gap_taken s n k x.takes x.before x.after was page apart).0 gap) [
          | inl known ↦ absurd (h.1 (a, (i, v, was, known, sym same ∙ is)))
          | inr range ↦ (let le = range.0 in let lt = range.1 in ((a, ((i, v, does, is), page)), omega arith, omega arith))
        ]

    back : DueSpanBetween s (j ++ e ∷ []) n q f t m → DueLacks s (j ++ e ∷ []) p n q m × (¬ DueLacks s j p n q m)
    back h =
        let a = h.0.0 in
        let y = h.0.1.0 in
        let page = h.0.1.1 in
        let i = y.0 in
        let v = y.1 in
        let does = y.2 in
        let is = y.3 in
        let le = h.1 in
        let lt = h.2 in
        let was = old i a v does in
        let same = number i a v was in
        let gap =
        (missing_gap_taken s n k x.takes x.before x.after was page apart).1 (inr (omega arith, omega arith)) in (
          (a, (i, v, does, gap, is)),
          λ g.
              (let less = (pushed_time_covers_past j p q g.1.0 (Store g.0 g.1.1) f x.before g.1.2 apart).0 g.1.3.past in
              let at = g.1.4 in
              omega arith),
        )

-- an event that is no fetch tells of what a copy comes to lack
pub due_span_told_is : (s : Sizes) (j : List Event) (k p : ℕ) (kind : Kind) (n q m : ℕ)
    → ((w l r d : ℕ) → kind ≢ Fetch w l r d) → IsDueToldBy s j k p kind n q m ↔ DueComesToLack s j k p n q m
due_span_told_is s j k p (Fetch w l r d) n q m none = absurd (none w l r d refl)
due_span_told_is s j k p _ n q m none = ((λ h. h), λ h. h)

pub due_span_not_fetch : (k : Kind) → event_takes k ≡ true → (w l r d : ℕ) → k ≢ Fetch w l r d
due_span_not_fetch k takes w l r d is = true≢false (sym takes ∙ ap event_takes is)

due_span_positive : (n : ℕ) → n ≢ 0 → 0 < n
due_span_positive n some = elim (cases_lt 0 n) [ inl lt ↦ lt | inr le ↦ absurd (some (omega arith)) ]

-- what there is in the span of a fetch's timestamps is what the fetch tells of
pub due_span_in_fetch : {s : Sizes} {w n r d : ℕ} {span : Span} (j : List Event) (k : ℕ) (e : Event) → e.kind ≡ Fetch w n r d
    → IsDueSpanOfFetch s (take k j) e.processor n span → EventProcessorsInRange 16 (take k j) → (x : Due)
    → IsDueWithin s (take k j) span x ↔ IsDueRecord s j k e x
due_span_in_fetch {s} {w} {n} {r} {d} {span} j k e kind is_span low x = (there, back)
  where
    p : ℕ
    p = e.processor

    h : List Event
    h = take k j

    Told : ℕ → Type 0
    Told m = (n ≡ x.page) × DueLacks s h p x.page x.writer m

    In : ℕ → Type 0
    In m = DueSpanBetween s h x.page x.writer (slice_index span.from) (slice_index span.to) m

    is : n ≡ x.page → x.writer ≢ p → (m : ℕ) → In m ↔ Told m
    is page apart m =
        let here : FetchGapBroughtUpTo s h p x.page (slice_index span.from) =
        subst (λ l. FetchGapBroughtUpTo s h p l (slice_index span.from)) page is_span.from in
        let same = due_span_lacks_is x.writer m apart here is_span.to in
        ((λ g. (page, same.1 g)), λ g. same.0 g.1)

    there : IsDueWithin s h span x → IsDueRecord s j k e x
    there y =
        let low_page = y.from in
        let high_page = y.to in
        let page : n ≡ x.page = omega arith in
        record {
          some = y.some;
          count =
              subst (λ c. HasPageImageCount (IsDueToldBy s j k p c x.page x.writer) x.records) (sym kind)
              (gaps_counted_same In Told x.records (is page (λ same. y.apart (same ∙ sym is_span.reader))) y.count);
        }

    back : IsDueRecord s j k e x → IsDueWithin s h span x
    back y =
        let told : HasPageImageCount Told x.records =
        subst (λ c. HasPageImageCount (IsDueToldBy s j k p c x.page x.writer) x.records) kind y.count in
        let one = value_count_some Told x.records told (due_span_positive x.records y.some) in
        let page = one.1.0 in
        let apart = due_span_lacks_not_own s h p x.page x.writer one.0 one.1.1 in
        record {
          low = due_span_lacks_low s h p x.page x.writer one.0 low one.1.1;
          apart = λ same. apart (same ∙ is_span.reader);
          from = omega arith;
          to = omega arith;
          some = y.some;
          count = gaps_counted_same Told In x.records (λ m. ((is page apart m).1, (is page apart m).0)) told;
        }

-- of another's intervals, those between the timestamps round an event that takes are those that it tells of
pub due_span_taken_is : {j : List Event} {k : ℕ} {e : Event} {f t : ℕ → ℕ} (s : Sizes) (n q m : ℕ) → DueSpanTakesAt j k e f t
    → q ≢ e.processor → DueSpanBetween s (take (k + 1) j) n q f t m ↔ IsDueToldBy s j k e.processor e.kind n q m
due_span_taken_is {j} {k} {e} {f} {t} s n q m x apart =
    let told = due_span_told_is s j k p e.kind n q m (due_span_not_fetch e.kind x.takes) in
    let both = comes in
    ((λ h. told.1 (both.1 h)), λ h. both.0 (told.0 h))
  where
    p : ℕ
    p = e.processor

    Range : List Event → Type 0
    Range h =
        (DueLacks s h p n q m × (¬ DueLacks s (take k j) p n q m)) ↔ DueSpanBetween s h n q f t m

    comes : Range (take (k + 1) j)
    comes =
        let next : take (k + 1) j ≡ take k j ++ e ∷ [] = next_clocks_front j k e x.at in
        let behind : DueSpanTakesBehind (take k j) p e.kind f t =
        record { takes = x.takes; before = x.before; after = subst (λ h. IsTimeOf h p t) next x.after } in
        subst Range (sym next) (due_span_comes_is s n q m behind apart)

-- what there is in the span of the timestamps round an event that takes is what it tells of
pub due_span_in_taken : {s : Sizes} {j : List Event} {k : ℕ} {e : Event} {span : Span} → IsDueSpanOfTaking s j k e span → (x : Due)
    → IsDueWithin s (take (k + 1) j) span x ↔ IsDueRecord s j k e x
due_span_in_taken {s} {j} {k} {e} {span} round x = (there, back)
  where
    p : ℕ
    p = e.processor

    Told : ℕ → Type 0
    Told m = IsDueToldBy s j k p e.kind x.page x.writer m

    In : ℕ → Type 0
    In m = DueSpanBetween s (take (k + 1) j) x.page x.writer (slice_index span.from) (slice_index span.to) m

    is : x.writer ≢ p → (m : ℕ) → In m ↔ Told m
    is apart m = due_span_taken_is s x.page x.writer m round.takes apart

    there : IsDueWithin s (take (k + 1) j) span x → IsDueRecord s j k e x
    there y =
        record {
          some = y.some;
          count = gaps_counted_same In Told x.records (is (λ same. y.apart (same ∙ sym round.reader))) y.count;
        }

    back : IsDueRecord s j k e x → IsDueWithin s (take (k + 1) j) span x
    back y =
        let one = value_count_some Told x.records y.count (due_span_positive x.records y.some) in
        let told = (due_span_told_is s j k p e.kind x.page x.writer one.0 (due_span_not_fetch e.kind round.takes.takes)).0 one.1 in
        let apart = due_span_lacks_not_own s (take (k + 1) j) p x.page x.writer one.0 told.0 in
        let in_page = (is apart one.0).1 one.1 in
        let page = round.pages x.page x.writer one.0 in_page.0 in
        record {
          low = due_span_lacks_low s (take (k + 1) j) p x.page x.writer one.0 round.low told.0;
          apart = λ same. apart (same ∙ round.reader);
          from = omega arith;
          to = omega arith;
          some = y.some;
          count = gaps_counted_same Told In x.records (λ m. ((is apart m).1, (is apart m).0)) y.count;
        }

-- an event that neither takes nor fetches tells of no interval
pub due_span_none_told : {j : List Event} {k : ℕ} {e : Event} (s : Sizes) → HasNoDueSpanAt j k e → (n q m : ℕ)
    → IsDueToldBy s j k e.processor e.kind n q m → ⊥
due_span_none_told {j} {k} {e} s quiet n q m one =
    let told = (due_span_told_is s j k p e.kind n q m quiet.fetches).0 one in
    told.1 (same (subst (λ h. DueLacks s h p n q m) next told.0))
  where
    p : ℕ
    p = e.processor

    next : take (k + 1) j ≡ take k j ++ e ∷ []
    next = next_clocks_front j k e quiet.at

    block : IsBlock p (e ∷ [])
    block i f here = elim (slice_push_cases [] e i f here) [
      | inl old ↦ absurd (let lt = old.0 in omega arith)
      | inr new ↦ (sym (ap (λ (x : Event). x.processor) new.1), sym (ap (λ (x : Event). event_takes x.kind) new.1) ∙ quiet.takes)
    ]

    away : (i w r d : ℕ) → ¬ Does (e ∷ []) i p (Fetch w n r d)
    away i w r d here = elim (slice_push_cases [] e i (event p (Fetch w n r d)) here) [
      | inl old ↦ (let lt = old.0 in omega arith)
      | inr new ↦ quiet.fetches w n r d (ap (λ (x : Event). x.kind) new.1)
    ]

    same : DueLacks s (take k j ++ e ∷ []) p n q m → DueLacks s (take k j) p n q m
    same g = (
      g.0,
      (missing_gap_stored_longer s (take k j) (e ∷ []) p n
          (λ i. complete_copy_block_gap s (take k j) (e ∷ []) p n i block away) (q, m, g.0)).0 g.1,
    )

-- and so of nothing
pub due_span_quiet : {j : List Event} {k : ℕ} {e : Event} (s : Sizes) → HasNoDueSpanAt j k e → AreDues s j k e []
due_span_quiet {j} {k} {e} s quiet = record {
  has = λ x. ((λ h. absurd (none-some x h.1)), λ y. absurd (nothing x y));
  order = λ m n x y lt to. absurd (none-some x to);
}
  where
    nothing : (x : Due) → IsDueRecord s j k e x → ⊥
    nothing x y =
        let one =
        value_count_some (IsDueToldBy s j k e.processor e.kind x.page x.writer) x.records y.count (due_span_positive x.records y.some) in
        due_span_none_told s quiet x.page x.writer one.0 one.1

-- what there is below the span's end is all of it
pub due_span_all_below : (s : Sizes) (j h : List Event) (k : ℕ) (e : Event) (span : Span) (dues : List Due)
    → ((x : Due) → IsDueWithin s h span x ↔ IsDueRecord s j k e x) → DuesBelow s h span (span.end * 16) dues
    → AreDues s j k e dues
due_span_all_below s j h k e span dues is are = record { has = λ x. (there x, back x); order = order }
  where
    there : (x : Due) → Has dues x → IsDueRecord s j k e x
    there x at = (is x).0 ((are.has x).0 at).0

    back : (x : Due) → IsDueRecord s j k e x → Has dues x
    back x due =
        let y = (is x).1 due in
        let low = y.low in
        let page = y.to in
        (are.has x).1 (y, omega arith)

    order : InOrder DuesByPageAndWriter dues
    order m n x y lt at to =
        let rows = are.order m n x y lt at to in
        let first = ((are.has x).0 (m, at)).0.low in
        let second = ((are.has y).0 (n, to)).0.low in
        elim (cases_lt x.page y.page) [ inl less ↦ inl less | inr more ↦ inr (omega arith, omega arith) ]

abbrev due_span_with_records : ℕ → ℕ → ℕ → Due
due_span_with_records n q r = record { page = n; writer = q; records = r }

-- of one page and writer there is one
due_span_same : (s : Sizes) (j : List Event) (span : Span) (x y : Due) → x.page ≡ y.page → x.writer ≡ y.writer
    → IsDueWithin s j span x → IsDueWithin s j span y → x ≡ y
due_span_same s j span x y page writer one two =
    due_of x y page writer
    (value_count_unique (DueSpanBetween s j x.page x.writer (slice_index span.from) (slice_index span.to)) x.records y.records one.count
    (subst (λ q. HasPageImageCount (DueSpanBetween s j x.page q (slice_index span.from) (slice_index span.to)) y.records) (sym writer)
    (subst (λ n. HasPageImageCount (DueSpanBetween s j n y.writer (slice_index span.from) (slice_index span.to)) y.records) (sym page)
    two.count)))
  where
    due_of : (a b : Due) → a.page ≡ b.page → a.writer ≡ b.writer → a.records ≡ b.records → a ≡ b
    due_of a b first second third =
        ap (λ (n : ℕ). due_span_with_records n a.writer a.records) first ∙ ap (λ (q : ℕ). due_span_with_records b.page q a.records) second
        ∙ ap (λ (r : ℕ). due_span_with_records b.page b.writer r) third

-- the span has nothing of a writer of which it has no interval
pub due_span_none_between : {s : Sizes} {j : List Event} {span : Span} {x : Due} (q : ℕ) → IsDueWithin s j span x → x.writer ≡ q
    → slice_index span.to q ≤ slice_index span.from q → ⊥
due_span_none_between {s} {j} {span} {x} q y is le =
    let one =
    value_count_some (DueSpanBetween s j x.page x.writer (slice_index span.from) (slice_index span.to)) x.records y.count
    (due_span_positive x.records y.some) in
    let from = ap (slice_index span.from) is in
    let to = ap (slice_index span.to) is in
    let low = one.1.1 in
    let high = one.1.2 in
    omega arith

-- and nothing where nothing is counted
pub due_span_none_counted : {s : Sizes} {j : List Event} {span : Span} {x : Due} (n q r : ℕ) → IsDueWithin s j span x → x.page ≡ n
    → x.writer ≡ q → HasPageImageCount (DueSpanBetween s j n q (slice_index span.from) (slice_index span.to)) r → r ≡ 0 → ⊥
due_span_none_counted {s} {j} {span} {x} n q r y page writer count none =
    y.some
    (value_count_unique (DueSpanBetween s j x.page x.writer (slice_index span.from) (slice_index span.to)) x.records r y.count
    (subst (λ l. HasPageImageCount (DueSpanBetween s j l x.writer (slice_index span.from) (slice_index span.to)) r) (sym page)
    (subst (λ w. HasPageImageCount (DueSpanBetween s j n w (slice_index span.from) (slice_index span.to)) r) (sym writer) count))
    ∙ none)

-- a page that somebody stores in is one of the pages
pub due_span_pages_within : (s : Sizes) (j : List Event) (k : ℕ) → ((i : ℕ) (e : Event) → EventAt j i e → IsEventInSizes s e)
    → (n q m : ℕ) → FetchGapStoreInPage s (take k j) n q m → n < s.pages
due_span_pages_within s j k within n q m x =
    let a = x.0 in
    let store = x.1.0 in
    let page = x.1.1 in
    let e : Event = event q (Store a store.1) in
    let at = slice_get-from_take j k store.0 e store.2 in
    let low : a < s.pages * s.words = (within store.0 e at).kind in
    elim (cases_lt 0 s.words) [
      | inl some ↦ (let under = div_below a s.words s.pages some low in omega arith)
      | inr none ↦
          (let zero : s.words ≡ 0 = omega arith in
          absurd (let lt : a < s.pages * 0 = subst (λ w. a < s.pages * w) zero low in omega arith))
    ]

-- below the first row there is nothing
pub due_span_below_start : (s : Sizes) (j : List Event) (span : Span) (row : ℕ) (dues : List Due) → row ≡ span.first * 16
    → dues ≡ [] → DuesBelow s j span row dues
due_span_below_start s j span row dues is none = subst (DuesBelow s j span row) (sym none) (record {
  has = λ x. (
    λ h. absurd (none-some x h.1),
    λ y. absurd (let page = y.0.from in let lt = y.1 in omega arith),
  );
  order = λ m n x y lt at. absurd (none-some x at);
})

-- a row more, of which there is this
pub due_span_below_next : {s : Sizes} {j : List Event} {span : Span} {dues : List Due} (n q : ℕ) (o : Option Due) (new : List Due)
    → q < 16 → DuesBelow s j span (gap_tally_place_of n q) dues → IsOneOfDues s j span n q o
    → MatchOption o (new ≡ dues) (λ x. new ≡ dues ++ x ∷ []) → DuesBelow s j span (gap_tally_place_of n q + 1) new
due_span_below_next {s} {j} {span} {dues} n q None new lt are none same = subst (DuesBelow s j span (gap_tally_place_of n q + 1)) (sym same) (record {
  has = λ x. (
    λ h. (let y = (are.has x).0 h in let less = y.1 in (y.0, omega arith)),
    λ y. elim (cases_eq (gap_tally_place_of x.page x.writer) (gap_tally_place_of n q)) [
      | inl is ↦
          absurd (let low = y.0.low in
          let page : x.page ≡ n = omega arith in
          let writer : x.writer ≡ q = omega arith in
          none x y.0 page writer)
      | inr isnt ↦ (let less = y.1 in (are.has x).1 (y.0, omega arith))
    ],
  );
  order = are.order;
})
due_span_below_next {s} {j} {span} {dues} n q (Some d) new lt are one more =
    subst (DuesBelow s j span (gap_tally_place_of n q + 1)) (sym more) (record { has = λ x. (there x, back x); order = order })
  where
    row : gap_tally_place_of d.page d.writer ≡ gap_tally_place_of n q
    row = let page = one.1 in let writer = one.2 in omega arith

    there : (x : Due) → Has (dues ++ d ∷ []) x → IsDueWithin s j span x × (gap_tally_place_of x.page x.writer < gap_tally_place_of n q + 1)
    there x at = elim (slice_push_cases dues d at.0 x at.1) [
      | inl old ↦ (let y = (are.has x).0 (at.0, old.1) in let less = y.1 in (y.0, omega arith))
      | inr now ↦
          (let here = row in
          subst (λ y. IsDueWithin s j span y × (gap_tally_place_of y.page y.writer < gap_tally_place_of n q + 1)) now.1 (one.0, omega arith))
    ]

    back : (x : Due) → IsDueWithin s j span x × (gap_tally_place_of x.page x.writer < gap_tally_place_of n q + 1) → Has (dues ++ d ∷ []) x
    back x y = elim (cases_eq (gap_tally_place_of x.page x.writer) (gap_tally_place_of n q)) [
      | inl is ↦
          (let low = y.0.low in
          let page : x.page ≡ d.page = (let first = one.1 in let second = one.2 in omega arith) in
          let writer : x.writer ≡ d.writer = (let first = one.1 in let second = one.2 in omega arith) in
          (length dues, slice_get-last dues d ∙ ap (λ z. Some z) (sym (due_span_same s j span x d page writer y.0 one.0))))
      | inr isnt ↦
          (let less = y.1 in
          let at = (are.has x).1 (y.0, omega arith) in
          (at.0, slice_get-append_left dues (d ∷ []) at.0 (slice_get_within dues at.0 x at.1) ∙ at.1))
    ]

    order : InOrder (λ (x y : Due). gap_tally_place_of x.page x.writer < gap_tally_place_of y.page y.writer) (dues ++ d ∷ [])
    order m l x y less at to = elim (slice_push_cases dues d l y to) [
      | inl old ↦
          (let inside = old.0 in
          are.order m l x y less (sym (slice_get-append_left dues (d ∷ []) m (omega arith)) ∙ at) old.1)
      | inr now ↦
          (let last = now.0 in
          let under =
          ((are.has x).0 (m, sym (slice_get-append_left dues (d ∷ []) m (omega arith)) ∙ at)).1 in
          let here = row in
          let end = ap (λ (z : Due). gap_tally_place_of z.page z.writer) now.1 in
          omega arith)
    ]

-- a row of dues more
pub due_span_rows_next : (s : Sizes) (j : List Event) (rows : List (Vec Due)) (n : ℕ) (row : Vec Due) → length rows ≡ n
    → AreAllDues s j rows → ((e : Event) → EventAt j n e → AreDues s j n e row.items) → AreAllDues s j (rows ++ row ∷ [])
due_span_rows_next s j rows n row long are now k e new here at =
    rows_next (λ (m : ℕ) (xs : Vec Due). (f : Event) → EventAt j m f → AreDues s j m f xs.items) rows n row long
    (λ m old to f there. are m f old there to) now k new at e here

-- what of a result follows from what is known of it
pub due_span_if_ok : {A E : Type 0} (r : Result A E) (P Q : A → Type 0) → ((x : A) → P x → Q x) → IfOk r P → IfOk r Q
due_span_if_ok (Ok x) P Q f p = f x p
due_span_if_ok (Err e) P Q f p = tt
