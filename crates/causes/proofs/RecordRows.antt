-- Records of a closed interval. Of each address the last store of the interval is looked up; the words of a page, by rising
-- offsets, are what the interval comes to there, for the places of its stores are those of the open interval before the event
-- that closes it.
use Rattle.std.proofs.Common.{◌≡◌, ℕ, ◌+◌, ◌*◌, ◌/◌, ◌%◌, ◌<◌, ◌≤◌, ◌↔◌, inl, inr, Bool, false, List, [], ◌∷◌, ◌++◌, Option, Some, length, replicate, slice_get, slice_index_or, take, drop, subst, sym, refl, ap, ap₂, ◌∙◌, mod-lt, arith}
use Rattle.std.proofs.lemmas.Bool.{cases_eq, cases_lt}
use Rattle.std.proofs.lemmas.List.{length-replicate, length-take-le, take-append-drop}
use Rattle.std.proofs.lemmas.Nat.{div-add-mod', div-mul-add, div_below, mod-mul-add}
use Rattle.std.proofs.lemmas.Option.{get_or_from_slice_get, same_Some, slice_get-get_or, slice_get_read, slice_get_within, some_pair_parts}
use Rattle.base.specs.InOrderOnce.{Has, InOrder}
use Rattle.base.specs.LastWrite.{LastWrite, written}
use Rattle.base.specs.AppliedRecords.{harvest, marked_writes}
use Rattle.base.proofs.SlicesAndCounts.{slice_push_cases, slice_get-append_left, slice_get-last}
use Rattle.journal.specs.declared.event.Event.{Event}
use Rattle.journal.specs.declared.event.Kind.TheVariants.{Load, Store}
use Rattle.journal.specs.Blocks.{block_write}
use Rattle.journal.specs.IntervalContents.{IsIntervalContent, IntervalContentHas, open_interval_contents}
use Rattle.journal.specs.Dirty.{IsDirty}
use Rattle.journal.specs.DidEvent.{event}
use Rattle.journal.specs.Events.{EventAt, event_count, event_interval_at, event_closes}
use Rattle.journal.specs.PageImages.{page_image_write}
use Rattle.journal.specs.Sizes.{Sizes}
use Rattle.journal.specs.WellFormed.{Does}
use Rattle.journal.proofs.CopyOfPage.PageStores.{page_store_same, page_store_writes}
use Rattle.journal.proofs.Intervals.DirtyPages.{dirty_page_content}
use Rattle.journal.proofs.Intervals.StoreContents.{store_contents_closed, store_contents_closing, store_contents_longer, store_contents_shorter}
use Rattle.journal.proofs.Order.EventPlacesAndCounts.{event_count-mono, event_count-past, event_place_inside}
use Rattle.journal.proofs.Passes.NextClocks.{next_clocks_front}
use Rattle.judge.specs.FetchGaps.{FetchGapStoreInPage}
use Rattle.judge.specs.Miscounted.{IsEventInSizes}
use Rattle.causes.specs.declared.closed_records.PageRecord.{PageRecord}
use Rattle.causes.specs.declared.store_rows.NumberedStore.{NumberedStore}
use Rattle.causes.specs.Index.{IsIndexedClosing}
use Rattle.causes.specs.ClosedRecords.{AreClosedRecords, AreClosedRecordWordsBelow, IsClosedRecordValue, IsNotInClosedRecord}
use Rattle.causes.specs.NumberedStores.{AreNumberedStoresBelow, IsLastNumberedStoreUnder, NoNumberedStoreUnder}
use Rattle.causes.specs.TakingEvents.{AreTakingEventNumbers}
use Rattle.causes.proofs.StaleCopies.{stale_copy_interval_stores}
use Rattle.causes.proofs.StoreRowSteps.{store_row_intervals_rise}

-- these are the first records: those of the pages below this one
pub record AreClosedRecordsBelow (s : Sizes) (j : List Event) (q m n : ℕ) (records : List PageRecord) : Type 0 where
  pub content : (x : PageRecord) → Has records x → IsIntervalContent s j q m x.page x.words.items
  pub some : (x : PageRecord) → Has records x → (x.page < n) × ((i : ℕ) × IntervalContentHas s j q m x.page i)
  pub all : (l i : ℕ) → l < n → IntervalContentHas s j q m l i → (x : PageRecord) × Has records x × (x.page ≡ l)
  pub order : InOrder (λ (x y : PageRecord). x.page < y.page) records

-- a store of the interval in its row
record RecordStoreInRow (row : List NumberedStore) (m i : ℕ) : Type 0 where
  index : ℕ
  store : NumberedStore
  at : slice_get row index ≡ Some store
  place : store.place ≡ i
  number : store.interval ≡ m

record_in_row : {j : List Event} {a q : ℕ} {row : List NumberedStore} (m i w : ℕ) → AreNumberedStoresBelow j a q (length j) row
    → Does j i q (Store a w) → event_interval_at j q i ≡ m → RecordStoreInRow row m i
record_in_row {j} {a} {q} {row} m i w are does number =
    let x = are.all i w (event_place_inside j i (event q (Store a w)) does) does in
    record {
      index = x.0;
      store = x.1;
      at = x.2;
      place = x.3;
      number = (are.each x.0 x.1 x.2).interval ∙ ap (event_interval_at j q) x.3 ∙ number;
    }

-- no store of the row is of an interval up to this one
pub record_row_none : {j : List Event} {a q : ℕ} {row : List NumberedStore} (m : ℕ) → AreNumberedStoresBelow j a q (length j) row
    → NoNumberedStoreUnder row (m + 1) → IsNotInClosedRecord j q m a
record_row_none {j} {a} {q} {row} m are none i w does number =
    let x = record_in_row m i w are does number in
    let le = none x.index x.store x.at in
    let is = x.number in
    omega arith

-- the last one that is, is of an earlier one
pub record_row_early : {j : List Event} {a q : ℕ} {row : List NumberedStore} {last : NumberedStore} (m : ℕ)
    → AreNumberedStoresBelow j a q (length j) row → IsLastNumberedStoreUnder row (m + 1) last → last.interval < m
    → IsNotInClosedRecord j q m a
record_row_early {j} {a} {q} {row} {last} m are is early i w does number =
    let x = record_in_row m i w are does number in
    let of = x.number in
    elim (cases_lt is.index x.index) [
      | inl later ↦ (let le = is.later x.index x.store later x.at in omega arith)
      | inr before ↦ elim (cases_eq x.index is.index) [
        | inl same ↦
            (let one = same_Some x.store last (sym x.at ∙ ap (slice_get row) same ∙ is.at) in
            let equal = ap (λ (y : NumberedStore). y.interval) one in
            omega arith)
        | inr apart ↦
            (let rise = store_row_intervals_rise j a q (length j) row are x.index is.index x.store last (omega arith) x.at is.at in
            omega arith)
      ]
    ]

-- and where it is of this one it is the interval's last store there
pub record_row_last : {j : List Event} {a q : ℕ} {row : List NumberedStore} {last : NumberedStore} (m b p v : ℕ)
    → AreNumberedStoresBelow j a q (length j) row → IsLastNumberedStoreUnder row (m + 1) last → m ≤ last.interval
    → Does j last.place p (Store b v) → IsClosedRecordValue j q m a v
record_row_last {j} {a} {q} {row} {last} m b p v are is late stored =
    let own = are.each is.index last is.at in
    let under = is.under in
    let same = page_store_same j last.place stored own.does in
    record {
      place = last.place;
      does = subst (λ u. Does j last.place q (Store a u)) (sym same.2) own.does;
      number = sym own.interval ∙ (let exact : last.interval ≡ m = omega arith in exact);
      last = λ i w does number.
          let x = record_in_row m i w are does number in
          let of = x.number in
          let here = x.place in
          elim (cases_lt is.index x.index) [
            | inl later ↦ (let le = is.later x.index x.store later x.at in absurd (omega arith))
            | inr before ↦ elim (cases_eq x.index is.index) [
              | inl equal ↦
                  (let one = same_Some x.store last (sym x.at ∙ ap (slice_get row) equal ∙ is.at) in
                  let place = ap (λ (y : NumberedStore). y.place) one in
                  omega arith)
              | inr apart ↦ (let rise = are.rising x.index is.index x.store last (omega arith) x.at is.at in omega arith)
            ]
          ];
    }

-- there is one last value
record_row_last_same : (j : List Event) (q m a v w : ℕ) → IsClosedRecordValue j q m a v → IsClosedRecordValue j q m a w → v ≡ w
record_row_last_same j q m a v w x y =
    let le = y.last x.place v x.does x.number in
    let ge = x.last y.place w y.does y.number in
    let is : x.place ≡ y.place = omega arith in
    (page_store_same j y.place (subst (λ i. Does j i q (Store a v)) is x.does) y.does).2

-- an address that the interval doesn't store to
pub record_row_words_quiet : (j : List Event) (q m a n : ℕ) (words : List (ℕ × ℕ)) → IsNotInClosedRecord j q m (a + n)
    → AreClosedRecordWordsBelow j q m a n words → AreClosedRecordWordsBelow j q m a (n + 1) words
record_row_words_quiet j q m a n words none are = record {
  has = λ o v. (
    λ h. (let x = (are.has o v).0 h in let lt = x.0 in (omega arith, x.1)),
    λ x. elim (cases_eq o n) [
      | inl is ↦
          (let last : IsClosedRecordValue j q m (a + n) v = subst (λ b. IsClosedRecordValue j q m (a + b) v) is x.1 in
          absurd (none last.place v last.does last.number))
      | inr isnt ↦ (let lt = x.0 in (are.has o v).1 (omega arith, x.1))
    ],
  );
  rising = are.rising;
}

-- one that it does
pub record_row_words_next : (j : List Event) (q m a n v : ℕ) (words : List (ℕ × ℕ)) → IsClosedRecordValue j q m (a + n) v
    → AreClosedRecordWordsBelow j q m a n words → AreClosedRecordWordsBelow j q m a (n + 1) (words ++ (n, v) ∷ [])
record_row_words_next j q m a n v words last are = record { has = λ o u. (there o u, back o u); rising = rising }
  where
    there : (o u : ℕ) → Has (words ++ (n, v) ∷ []) (o, u) → (o < n + 1) × IsClosedRecordValue j q m (a + o) u
    there o u h = elim (slice_push_cases words (n, v) h.0 (o, u) h.1) [
      | inl old ↦ (let x = (are.has o u).0 (h.0, old.1) in let lt = x.0 in (omega arith, x.1))
      | inr now ↦
          (let P : ℕ × ℕ → Type 0 = λ w. (w.0 < n + 1) × IsClosedRecordValue j q m (a + w.0) w.1 in
          subst P now.1 (omega arith, last))
    ]

    back : (o u : ℕ) → (o < n + 1) × IsClosedRecordValue j q m (a + o) u → Has (words ++ (n, v) ∷ []) (o, u)
    back o u x = elim (cases_eq o n) [
      | inl is ↦
          (let here : IsClosedRecordValue j q m (a + n) u = subst (λ b. IsClosedRecordValue j q m (a + b) u) is x.1 in
          let value = record_row_last_same j q m (a + n) v u last here in
          (length words, slice_get-last words (n, v) ∙ ap₂ (λ (b w : ℕ). Some (b, w)) (sym is) value))
      | inr isnt ↦
          (let lt = x.0 in
          let h = (are.has o u).1 (omega arith, x.1) in
          (h.0, slice_get-append_left words ((n, v) ∷ []) h.0 (slice_get_within words h.0 (o, u) h.1) ∙ h.1))
    ]

    rising : InOrder (λ (x y : ℕ × ℕ). x.0 < y.0) (words ++ (n, v) ∷ [])
    rising k l x y lt at to = elim (slice_push_cases words (n, v) l y to) [
      | inl old ↦
          (let inside = old.0 in
          are.rising k l x y lt (sym (slice_get-append_left words ((n, v) ∷ []) k (omega arith)) ∙ at) old.1)
      | inr now ↦
          (let last_at = now.0 in
          let under = ((are.has x.0 x.1).0 (k, sym (slice_get-append_left words ((n, v) ∷ []) k (omega arith)) ∙ at)).0 in
          let same = ap (λ (w : ℕ × ℕ). w.0) now.1 in
          omega arith)
    ]

-- the open interval comes to something in each page
record_row_open : (s : Sizes) (j : List Event) (p n : ℕ) → 0 < s.words
    → (words : List (ℕ × ℕ)) × IsIntervalContent s j p (event_count event_closes j p) n words
record_row_open s j p n some = (harvest 0 page marks, dirty_page_content s j p n page marks some dirty)
  where
    write : Event → Option (ℕ × ℕ)
    write e = block_write s n e.kind

    clean : List ℕ
    clean = replicate s.words 0

    page : List ℕ
    page = written (λ (e : Event). block_write s n e.kind) clean (open_interval_contents j p)

    marks : List Bool
    marks = marked_writes (λ (e : Event). block_write s n e.kind) (replicate s.words false) (open_interval_contents j p)

    dirty : IsDirty s j p n page marks
    dirty = record { clean = clean; long = length-replicate s.words 0; page_is = refl; marks_are = refl }

-- so does one that is closed at place k
record_row_closed : {j : List Event} {q m k : ℕ} (s : Sizes) (n : ℕ) → IsIndexedClosing j q m k → 0 < s.words
    → (words : List (ℕ × ℕ)) × IsIntervalContent s j q m n words
record_row_closed {j} {q} {m} {k} s n closing some = (known.0, subst (λ i. IsIntervalContent s j q i n known.0) closing.number whole)
  where
    e : Event
    e = event q closing.closes.kind

    open_one : ℕ
    open_one = event_interval_at j q k

    known : (words : List (ℕ × ℕ)) × IsIntervalContent s (take k j) q open_one n words
    known = record_row_open s (take k j) q n some

    next : take (k + 1) j ≡ take k j ++ e ∷ []
    next = next_clocks_front j k e closing.closes.does

    behind : IsIntervalContent s (take (k + 1) j) q open_one n known.0
    behind =
        subst (λ h. IsIntervalContent s h q open_one n known.0) (sym next)
        (store_contents_closing s (take k j) e q open_one n known.0 closing.closes.closes known.1)

    counted : open_one < event_count event_closes (take (k + 1) j) q
    counted = event_count-past event_closes j k (k + 1) q e.kind closing.closes.does closing.closes.closes (omega arith)

    whole : IsIntervalContent s j q open_one n known.0
    whole =
        subst (λ h. IsIntervalContent s h q open_one n known.0) (take-append-drop (k + 1) j)
        (store_contents_closed s (take (k + 1) j) (drop (k + 1) j) q open_one n known.0 counted behind)

-- an address by its page and its offset
record_row_address : (w n o a : ℕ) → a / w ≡ n → a % w ≡ o → a ≡ n * w + o
record_row_address w n o a page offset = sym (div-add-mod' a w) ∙ ap₂ (λ (x y : ℕ). x * w + y) page offset

-- the words of a page that are looked up are what the interval comes to there, by what it comes to in any way
record_row_content_by : {s : Sizes} {j : List Event} {q m n : ℕ} {known words : List (ℕ × ℕ)} → 0 < s.words
    → IsIntervalContent s j q m n known → AreClosedRecordWordsBelow j q m (n * s.words) s.words words → IsIntervalContent s j q m n words
record_row_content_by {s} {j} {q} {m} {n} {known} {words} some content are = record {
  places = content.places;
  each = content.each;
  rising = content.rising;
  sums = record { each = λ o v. (there o v, back o v); rising = are.rising };
}
  where
    f : ℕ → Option (ℕ × ℕ)
    f i = page_image_write s (slice_get j i)

    -- a store of the interval at this offset
    of_offset : (i o : ℕ) (z : IntervalContentHas s j q m n i) → z.0 % s.words ≡ o → Does j i q (Store (n * s.words + o) z.1)
    of_offset i o z offset =
        subst (λ a. Does j i q (Store a z.1)) (record_row_address s.words n o z.0 z.3 offset) z.2

    stored : (i o v : ℕ) → o < s.words → Does j i q (Store (n * s.words + o) v) → event_interval_at j q i ≡ m
        → IntervalContentHas s j q m n i
    stored i o v lt does number = (n * s.words + o, v, does, div-mul-add n s.words o lt, number)

    writes : (i o v : ℕ) → o < s.words → Does j i q (Store (n * s.words + o) v)
        → ◌≡◌ {A = Option (ℕ × ℕ)} (page_image_write s (slice_get j i)) (Some (o, v))
    writes i o v lt does =
        page_store_writes s j i q (n * s.words + o) v does ∙ ap (λ (b : ℕ). Some (b, v)) (mod-mul-add n s.words o lt)

    -- what one of the places writes
    parts : (i o u : ℕ) (z : IntervalContentHas s j q m n i)
        → ◌≡◌ {A = Option (ℕ × ℕ)} (page_image_write s (slice_get j i)) (Some (o, u)) → (z.0 % s.words ≡ o) × (z.1 ≡ u)
    parts i o u z is =
        some_pair_parts (z.0 % s.words) o z.1 u (sym (page_store_writes s j i q z.0 z.1 z.2) ∙ is)

    there : (o v : ℕ) → Has words (o, v) → LastWrite f content.places o v
    there o v h =
        let x = (are.has o v).0 h in
        let last = x.1 in
        let at = (content.each last.place).1 (stored last.place o v x.0 last.does last.number) in
        record {
          place = at.0;
          item = last.place;
          at = at.1;
          writes = writes last.place o v x.0 last.does;
          last = λ k y u lt to is.
              let z = (content.each y).0 (k, to) in
              let both = parts y o u z is in
              let le = last.last y z.1 (of_offset y o z both.0) z.4 in
              let rise = content.rising at.0 k last.place y lt at.1 to in
              omega arith;
        }

    back : (o v : ℕ) → LastWrite f content.places o v → Has words (o, v)
    back o v l =
        let z = (content.each l.item).0 (l.place, l.at) in
        let both = parts l.item o v z l.writes in
        let offset = both.0 in
        let low = mod-lt z.0 some in
        let lt : o < s.words = omega arith in
        let does : Does j l.item q (Store (n * s.words + o) v) =
        subst (λ u. Does j l.item q (Store (n * s.words + o) u)) both.1 (of_offset l.item o z offset) in
        (are.has o v).1 (
          lt,
          record {
            place = l.item;
            does = does;
            number = z.4;
            last = λ i w to number. elim (cases_lt l.item i) [
              | inl later ↦
                  (let at = (content.each i).1 (stored i o w lt to number) in
                  elim (cases_lt l.place at.0) [
                    | inl behind ↦ absurd (l.last at.0 i w behind at.1 (writes i o w lt to))
                    | inr front ↦ elim (cases_eq at.0 l.place) [
                      | inl same ↦
                          (let one = same_Some i l.item (sym at.1 ∙ ap (slice_get content.places) same ∙ l.at) in omega arith)
                      | inr apart ↦
                          (let rise = content.rising at.0 l.place i l.item (omega arith) at.1 l.at in omega arith)
                    ]
                  ])
              | inr before ↦ before
            ];
          },
        )

-- of the interval that is closed at place k
pub record_row_content : {j : List Event} {q m k : ℕ} {words : List (ℕ × ℕ)} (s : Sizes) (n : ℕ) → IsIndexedClosing j q m k
    → 0 < s.words → AreClosedRecordWordsBelow j q m (n * s.words) s.words words → IsIntervalContent s j q m n words
record_row_content {j} {q} {m} {k} {words} s n closing some are =
    record_row_content_by some (record_row_closed s n closing some).1 are

-- the stores of a closed interval stand up to the event that closes it
pub record_row_stores : {j : List Event} {q m k : ℕ} (s : Sizes) (n : ℕ) → IsIndexedClosing j q m k
    → FetchGapStoreInPage s (take (k + 1) j) n q m ↔ ((i : ℕ) × IntervalContentHas s j q m n i)
record_row_stores {j} {q} {m} {k} s n closing = (there, back)
  where
    e : Event
    e = event q closing.closes.kind

    front : List Event
    front = take (k + 1) j

    whole : front ++ drop (k + 1) j ≡ j
    whole = take-append-drop (k + 1) j

    there : FetchGapStoreInPage s front n q m → (i : ℕ) × IntervalContentHas s j q m n i
    there x =
        let y = (stale_copy_interval_stores s front n q m).0 x in
        (y.0, subst (λ h. IntervalContentHas s h q m n y.0) whole (store_contents_longer s front (drop (k + 1) j) q m n y.0 y.1))

    back : (i : ℕ) × IntervalContentHas s j q m n i → FetchGapStoreInPage s front n q m
    back y =
        let z = y.1 in
        let number = z.4 in
        let is = closing.number in
        let under =
        event_count-past event_closes j k (k + 1) q e.kind closing.closes.does closing.closes.closes (omega arith) in
        let low : y.0 < k + 1 = elim (cases_lt y.0 (k + 1)) [
          | inl lt ↦ lt
          | inr late ↦ (let up = event_count-mono event_closes j (k + 1) y.0 q late in absurd (omega arith))
        ] in
        let inside = event_place_inside j k e closing.closes.does in
        let long = length-take-le (k + 1) j (omega arith) in
        (stale_copy_interval_stores s front n q m).1 (
          y.0,
          store_contents_shorter s front (drop (k + 1) j) q m n y.0 (omega arith)
              (subst (λ h. IntervalContentHas s h q m n y.0) (sym whole) z),
        )

-- a page in which the interval doesn't store
pub record_rows_quiet : (s : Sizes) (j : List Event) (q m n : ℕ) (records : List PageRecord)
    → ((i : ℕ) → ¬ IntervalContentHas s j q m n i) → AreClosedRecordsBelow s j q m n records
    → AreClosedRecordsBelow s j q m (n + 1) records
record_rows_quiet s j q m n records none are = record {
  content = are.content;
  some = λ x h. (let y = are.some x h in let lt = y.0 in (omega arith, y.1));
  all = λ l i lt stores. elim (cases_eq l n) [
    | inl is ↦ absurd (none i (subst (λ b. IntervalContentHas s j q m b i) is stores))
    | inr isnt ↦ are.all l i (omega arith) stores
  ];
  order = are.order;
}

-- one in which it does
pub record_rows_next : {s : Sizes} {j : List Event} {q m n : ℕ} {records : List PageRecord} (x : PageRecord) → x.page ≡ n
    → IsIntervalContent s j q m n x.words.items → ((i : ℕ) × IntervalContentHas s j q m n i)
    → AreClosedRecordsBelow s j q m n records → AreClosedRecordsBelow s j q m (n + 1) (records ++ x ∷ [])
record_rows_next {s} {j} {q} {m} {n} {records} x page content some are = record { content = each; some = some_of; all = all; order = order }
  where
    each : (y : PageRecord) → Has (records ++ x ∷ []) y → IsIntervalContent s j q m y.page y.words.items
    each y h = elim (slice_push_cases records x h.0 y h.1) [
      | inl old ↦ are.content y (h.0, old.1)
      | inr now ↦
          subst (λ (z : PageRecord). IsIntervalContent s j q m z.page z.words.items) now.1
          (subst (λ b. IsIntervalContent s j q m b x.words.items) (sym page) content)
    ]

    some_of : (y : PageRecord) → Has (records ++ x ∷ []) y
        → (y.page < n + 1) × ((i : ℕ) × IntervalContentHas s j q m y.page i)
    some_of y h = elim (slice_push_cases records x h.0 y h.1) [
      | inl old ↦ (let z = are.some y (h.0, old.1) in let lt = z.0 in (omega arith, z.1))
      | inr now ↦
          subst (λ (z : PageRecord). (z.page < n + 1) × ((i : ℕ) × IntervalContentHas s j q m z.page i)) now.1
          (omega arith, subst (λ b. (i : ℕ) × IntervalContentHas s j q m b i) (sym page) some)
    ]

    all : (l i : ℕ) → l < n + 1 → IntervalContentHas s j q m l i → (y : PageRecord) × Has (records ++ x ∷ []) y × (y.page ≡ l)
    all l i lt stores = elim (cases_eq l n) [
      | inl is ↦ (x, (length records, slice_get-last records x), page ∙ sym is)
      | inr isnt ↦
          (let y = are.all l i (omega arith) stores in
          (y.0, (y.1.0, slice_get-append_left records (x ∷ []) y.1.0 (slice_get_within records y.1.0 y.0 y.1.1) ∙ y.1.1), y.2))
    ]

    order : InOrder (λ (y z : PageRecord). y.page < z.page) (records ++ x ∷ [])
    order k l y z lt at to = elim (slice_push_cases records x l z to) [
      | inl old ↦
          (let inside = old.0 in
          are.order k l y z lt (sym (slice_get-append_left records (x ∷ []) k (omega arith)) ∙ at) old.1)
      | inr now ↦
          (let last = now.0 in
          let under = (are.some y (k, sym (slice_get-append_left records (x ∷ []) k (omega arith)) ∙ at)).0 in
          let same = ap (λ (w : PageRecord). w.page) now.1 in
          omega arith)
    ]

-- those of all pages are all
pub record_rows_all : (s : Sizes) (j : List Event) (q m : ℕ) (records : List PageRecord)
    → ((k : ℕ) (e : Event) → EventAt j k e → IsEventInSizes s e) → AreClosedRecordsBelow s j q m s.pages records
    → AreClosedRecords s j q m records
record_rows_all s j q m records within are = record {
  content = are.content;
  some = λ x h. (are.some x h).1;
  all = λ n i stores. are.all n i (low n i stores) stores;
  order = are.order;
}
  where
    low : (n i : ℕ) → IntervalContentHas s j q m n i → n < s.pages
    low n i z =
        let a = z.0 in
        let page = z.3 in
        let lt : a < s.pages * s.words = (within i (event q (Store a z.1)) z.2).kind in
        elim (cases_lt 0 s.words) [
          | inl some ↦ (let under = div_below a s.words s.pages some lt in omega arith)
          | inr none ↦
              (let zero : s.words ≡ 0 = omega arith in
              absurd (let none_below : a < s.pages * 0 = subst (λ w. a < s.pages * w) zero lt in omega arith))
        ]

-- a page that is stored in has words
pub record_row_some_words : (s : Sizes) (j : List Event) (q m n : ℕ) → ((k : ℕ) (e : Event) → EventAt j k e → IsEventInSizes s e)
    → ((i : ℕ) × IntervalContentHas s j q m n i) → 0 < s.words
record_row_some_words s j q m n within y =
    let z = y.1 in
    let lt : z.0 < s.pages * s.words = (within y.0 (event q (Store z.0 z.1)) z.2).kind in
    elim (cases_lt 0 s.words) [
      | inl some ↦ some
      | inr none ↦
          (let zero : s.words ≡ 0 = omega arith in
          absurd (let none_below : z.0 < s.pages * 0 = subst (λ w. z.0 < s.pages * w) zero lt in omega arith))
    ]

-- the event at this place
abbrev pub record_row_event : List Event → ℕ → Event
record_row_event j k = slice_index_or j k (event 0 (Load 0 0))

-- the number that is looked up of an event is its interval's
pub record_row_number_is : (j : List Event) (numbers : List ℕ) (k n : ℕ) → k < length j → AreTakingEventNumbers j numbers
    → n ≡ slice_index_or numbers k n → n ≡ event_interval_at j (record_row_event j k).processor k
record_row_number_is j numbers k n lt are read =
    let long = are.long in
    let there = slice_get_read numbers (length numbers) k n refl (omega arith) read in
    sym (get_or_from_slice_get numbers k n 0 there)
    ∙ are.each k (record_row_event j k) (slice_get-get_or j k (event 0 (Load 0 0)) lt)
