-- The record of the events of an interval is the record of their places, and stays so.
use Rattle.std.proofs.Common.{ℕ, ◌≡◌, ◌<◌, ◌≤◌, ◌/◌, ◌%◌, ◌==◌, List, [], ◌∷◌, ◌++◌, Bool, true, false, cond, Option, Some, None, is_some, filter, slice_get, length, arith, refl, sym, ap, subst, ◌∙◌, eqb-true, eq-eqb, mod-lt, inl, inr, true≢false}
use Rattle.std.proofs.lemmas.Bool.{cases_lt}
use Rattle.std.proofs.Math.Seq.{take-append_seam}
use Rattle.std.proofs.lemmas.Option.{same_Some}
use Rattle.journal.specs.declared.event.Event.{Event}
use Rattle.journal.specs.declared.event.Kind.{Kind}
use Rattle.journal.specs.declared.event.Kind.TheVariants.{Store}
use Rattle.journal.specs.DidEvent.{event}
use Rattle.journal.specs.Sizes.{Sizes}
use Rattle.journal.specs.Events.{EventAt, event_closes, event_count, event_interval_at}
use Rattle.journal.specs.WellFormed.{Does}
use Rattle.journal.specs.PageImages.{page_image_word_write, page_image_write}
use Rattle.journal.specs.Blocks.{block_write}
use Rattle.journal.specs.IntervalContents.{open_interval_contents, IntervalContentHas, IsIntervalContent}
use Rattle.base.specs.InOrderOnce.{Has}
use Rattle.base.specs.LastWrite.{written}
use Rattle.base.specs.AppliedRecords.{IsRecordOf}
use Rattle.base.proofs.SlicesAndCounts.{slice_push_cases}
use Rattle.base.proofs.JoinedLists.{joined_list_has-nil}
use Rattle.base.proofs.FilteredInOrder.{filtered_in_order_has, in_order-filter}
use Rattle.base.proofs.LastWritten.{last_written_map, last_written_filter, last_written_function_same, last_written_exists}
use Rattle.base.proofs.RecordWrites.{record_writes_moved}
use Rattle.journal.proofs.Order.EventPlacesAndCounts.{event_place_inside, event_place_longer, event_place_shorter, event_count-front, event_count-mono}
use Rattle.journal.proofs.CopyOfPage.PageStores.{page_store_does_kind, page_store_writes, page_stores_after_longer}
use Rattle.journal.proofs.Intervals.OpenIntervals.{AreOpenIntervalPlaces, open_interval_places}

-- what the event at a place, if there is one, stores in page n
abbrev pub store_contents_write_at : Sizes → ℕ → Option Event → Option (ℕ × ℕ)
store_contents_write_at s n None = None
store_contents_write_at s n (Some e) = block_write s n e.kind

-- what stores in page n is a store to it
pub store_contents_write_is : (s : Sizes) (n : ℕ) (k : Kind) → is_some (block_write s n k) ≡ true
    → (a v : ℕ) × (k ≡ Store a v) × (a / s.words ≡ n) × (block_write s n k ≡ page_image_word_write s k)
store_contents_write_is s n (Store a v) h = go (a / s.words == n) refl h
  where
    go : (b : Bool) → (a / s.words == n) ≡ b → is_some {T = ℕ × ℕ} (cond b (Some (a % s.words, v)) None) ≡ true
        → (c w : ℕ) × (Store a v ≡ Store c w) × (c / s.words ≡ n)
        × (block_write s n (Store a v) ≡ page_image_word_write s (Store a v))
    go true e g = (a, v, refl, eqb-true (a / s.words) n e, rw e)
    go false e g = absurd (true≢false (sym g))
store_contents_write_is s n _ h = absurd (true≢false (sym h))

-- and a store to the page does
pub store_contents_write : (s : Sizes) (n a v : ℕ) → a / s.words ≡ n → block_write s n (Store a v) ≡ Some (a % s.words, v)
store_contents_write s n a v page = rw (eq-eqb (a / s.words) n page)

-- what picks nothing writes nothing
store_contents_none_picked : (o : Option (ℕ × ℕ)) → is_some o ≡ false → o ≡ None
store_contents_none_picked None h = refl
store_contents_none_picked (Some p) h = absurd (true≢false h)

-- the test of a place for a store to page n
store_contents_picks : Sizes → ℕ → List Event → ℕ → Bool
store_contents_picks s n j i = is_some (store_contents_write_at s n (slice_get j i))

-- a picked place has a store to the page
store_contents_picked : (s : Sizes) (n : ℕ) (j : List Event) (i : ℕ) (e : Event) → EventAt j i e → store_contents_picks s n j i ≡ true
    → (a v : ℕ) × Does j i e.processor (Store a v) × (a / s.words ≡ n)
unfolding store_contents_picks
store_contents_picked s n j i e at h =
    let x = store_contents_write_is s n e.kind (ap (λ (o : Option Event). is_some (store_contents_write_at s n o)) (sym at) ∙ h) in
    (x.0, x.1, page_store_does_kind j i e (Store x.0 x.1) at x.2, x.3)

-- the writes of the open interval's events are those of the picked places
store_contents_same_writes : (s : Sizes) (n : ℕ) (j : List Event) (p : ℕ) (places : List ℕ) (page : List ℕ) → AreOpenIntervalPlaces j p places
    → written (λ (e : Event). block_write s n e.kind) page (open_interval_contents j p)
    ≡ written (λ (i : ℕ). page_image_write s (slice_get j i)) page (filter (store_contents_picks s n j) places)
unfolding store_contents_picks
store_contents_same_writes s n j p places page open_at =
    sym (last_written_map (store_contents_write_at s n) Some page (open_interval_contents j p))
    ∙ ap (written (store_contents_write_at s n) page) (sym open_at.events)
    ∙ last_written_map (store_contents_write_at s n) (slice_get j) page places
    ∙ sym (last_written_filter (λ (i : ℕ). store_contents_write_at s n (slice_get j i)) (store_contents_picks s n j) page places
    (λ i h. store_contents_none_picked (store_contents_write_at s n (slice_get j i)) h))
    ∙ last_written_function_same (λ (i : ℕ). store_contents_write_at s n (slice_get j i)) (λ (i : ℕ). page_image_write s (slice_get j i)) page
    (filter (store_contents_picks s n j) places)
    (λ k i at. same i (slice_get j i) refl ((filtered_in_order_has (store_contents_picks s n j) places i).0 (k, at)).1)
  where
    same : (i : ℕ) (o : Option Event) → slice_get j i ≡ o → is_some (store_contents_write_at s n (slice_get j i)) ≡ true
        → store_contents_write_at s n (slice_get j i) ≡ page_image_write s (slice_get j i)
    same i None e h = absurd (true≢false (sym h ∙ ap (λ (o : Option Event). is_some (store_contents_write_at s n o)) e))
    same i (Some f) e h =
        ap (store_contents_write_at s n) e
        ∙ (store_contents_write_is s n f.kind (ap (λ (o : Option Event). is_some (store_contents_write_at s n o)) (sym e) ∙ h)).4
        ∙ ap (page_image_write s) (sym e)

-- the record of the events since the last closing one is the content of the open interval
pub store_contents_open : (s : Sizes) (j : List Event) (p n : ℕ) (words : List (ℕ × ℕ))
    → IsRecordOf (λ (e : Event). block_write s n e.kind) (open_interval_contents j p) words
    → IsIntervalContent s j p (event_count event_closes j p) n words
unfolding store_contents_picks
store_contents_open s j p n words record_of = record {
  places = filter (store_contents_picks s n j) places;
  each = λ i. (there i, back i);
  rising = in_order-filter (λ i m. i < m) (store_contents_picks s n j) places open_at.rising;
  sums =
      record_writes_moved (λ (e : Event). block_write s n e.kind) (λ (i : ℕ). page_image_write s (slice_get j i)) (open_interval_contents j p)
      (filter (store_contents_picks s n j) places) words (λ page. store_contents_same_writes s n j p places page open_at) record_of;
}
  where
    places : List ℕ
    places = (open_interval_places j p).0

    open_at : AreOpenIntervalPlaces j p places
    open_at = (open_interval_places j p).1

    there : (i : ℕ) → Has (filter (store_contents_picks s n j) places) i → IntervalContentHas s j p (event_count event_closes j p) n i
    there i h =
        let m = (filtered_in_order_has (store_contents_picks s n j) places i).0 h in
        let x = (open_at.each i).0 m.0 in
        let y = store_contents_picked s n j i x.event x.at m.1 in
        let P : ℕ → Type 0 = λ q. Does j i q (Store y.0 y.1) in
        (y.0, y.1, subst P x.mine y.2, y.3, x.number)

    back : (i : ℕ) → IntervalContentHas s j p (event_count event_closes j p) n i → Has (filter (store_contents_picks s n j) places) i
    back i x =
        let e : Event = event p (Store x.0 x.1) in
        (filtered_in_order_has (store_contents_picks s n j) places i).1 (
          (open_at.each i).1
              (record { event = e; at = x.2; mine = refl; open_at = refl; number = x.4 }),
          ap
              (λ (o : Option Event). is_some (store_contents_write_at s n o)) x.2
              ∙ ap is_some (store_contents_write s n x.0 x.1 x.3),
        )

-- a store of an interval stays one as the journal goes on
pub store_contents_longer : (s : Sizes) (j es : List Event) (q k n i : ℕ) → IntervalContentHas s j q k n i
    → IntervalContentHas s (j ++ es) q k n i
store_contents_longer s j es q k n i x =
    let e : Event = event q (Store x.0 x.1) in
    let within = event_place_inside j i e x.2 in
    (x.0, x.1, event_place_longer j es i e x.2, x.3, event_count-front event_closes j es i q (omega arith) ∙ x.4)

-- and was one before
pub store_contents_shorter : (s : Sizes) (j es : List Event) (q k n i : ℕ) → i < length j → IntervalContentHas s (j ++ es) q k n i
    → IntervalContentHas s j q k n i
store_contents_shorter s j es q k n i within x = (
  x.0,
  x.1,
  event_place_shorter j es i (event q (Store x.0 x.1)) within x.2,
  x.3,
  sym
      (event_count-front event_closes j es i q (omega arith))
      ∙ x.4,
)

-- what an interval comes to in a page stays as long as it stores nothing more there
pub store_contents_on : (s : Sizes) (j es : List Event) (q k n : ℕ) (words : List (ℕ × ℕ))
    → ((i : ℕ) → IntervalContentHas s (j ++ es) q k n i → i < length j) → IsIntervalContent s j q k n words
    → IsIntervalContent s (j ++ es) q k n words
store_contents_on s j es q k n words within content = record {
  places = content.places;
  each =
      λ i. (
        λ h. store_contents_longer s j es q k n i ((content.each i).0 h),
        λ x. (content.each i).1
            (store_contents_shorter s j es q k n i (within i x) x),
      );
  rising = content.rising;
  sums =
      record_writes_moved (λ (i : ℕ). page_image_write s (slice_get j i)) (λ (i : ℕ). page_image_write s (slice_get (j ++ es) i))
      content.places content.places words (λ page. sym (page_stores_after_longer s j es page content.places inside))
      content.sums;
}
  where
    inside : (i : ℕ) → Has content.places i → i < length j
    inside i h = let x = (content.each i).0 h in event_place_inside j i (event q (Store x.0 x.1)) x.2

-- through the closing event
pub store_contents_closing : (s : Sizes) (j : List Event) (e : Event) (q k n : ℕ) (words : List (ℕ × ℕ))
    → event_closes e.kind ≡ true → IsIntervalContent s j q k n words → IsIntervalContent s (j ++ e ∷ []) q k n words
store_contents_closing s j e q k n words closes = store_contents_on s j (e ∷ []) q k n words (λ i x.
    let f : Event = event q (Store x.0 x.1) in
    elim (slice_push_cases j e i f x.2)
    [ inl h ↦ h.0 | inr h ↦ absurd (true≢false (sym closes ∙ ap (λ (g : Event). event_closes g.kind) h.1)) ])

-- and, once the interval is closed, through all events
pub store_contents_closed : (s : Sizes) (j es : List Event) (q k n : ℕ) (words : List (ℕ × ℕ)) → k < event_count event_closes j q
    → IsIntervalContent s j q k n words → IsIntervalContent s (j ++ es) q k n words
store_contents_closed s j es q k n words closed =
    store_contents_on s j es q k n words
    (λ i x. elim (cases_lt i (length j)) [ inl less ↦ less | inr from ↦ absurd (late i x from) ])
  where
    late : (i : ℕ) → IntervalContentHas s (j ++ es) q k n i → length j ≤ i → ⊥
    late i x from =
        let whole : event_interval_at (j ++ es) q (length j) ≡ event_count event_closes j q =
        ap (λ (xs : List Event). event_count event_closes xs q) (take-append_seam j es) in
        let up = event_count-mono event_closes (j ++ es) (length j) i q from in
        let same = x.4 in
        omega arith

-- each store of an interval has a word at its offset
pub store_contents_has : (s : Sizes) (j : List Event) (q k n i : ℕ) (words : List (ℕ × ℕ)) → IsIntervalContent s j q k n words
    → (x : IntervalContentHas s j q k n i) → (v : ℕ) × Has words (x.0 % s.words, v)
store_contents_has s j q k n i words content x =
    let h = (content.each i).1 x in
    let last =
    last_written_exists (λ (m : ℕ). page_image_write s (slice_get j m)) content.places h.0 (x.0 % s.words) x.1 i h.1
    (page_store_writes s j i q x.0 x.1 x.2) in
    (last.0, (content.sums.each (x.0 % s.words) last.0).1 last.1)

-- an interval that comes to no word stores nothing in the page
pub store_contents_none : (s : Sizes) (j : List Event) (q k n i : ℕ) → IsIntervalContent s j q k n [] → IntervalContentHas s j q k n i → ⊥
store_contents_none s j q k n i content x = let h = store_contents_has s j q k n i [] content x in joined_list_has-nil (x.0 % s.words, h.0) h.1

-- each word that it comes to has a store
pub store_contents_word : {s : Sizes} {j : List Event} {q k n : ℕ} {words : List (ℕ × ℕ)} → IsIntervalContent s j q k n words
    → (w : ℕ × ℕ) → Has words w
    → (i : ℕ) × (x : IntervalContentHas s j q k n i) × (◌≡◌ {A = ℕ × ℕ} (x.0 % s.words, x.1) w)
store_contents_word {s} {j} {q} {k} {n} content w h =
    let l = (content.sums.each w.0 w.1).0 h in
    let x = (content.each l.item).0 (l.place, l.at) in
    (l.item, x, same_Some (x.0 % s.words, x.1) w (sym (page_store_writes s j l.item q x.0 x.1 x.2) ∙ l.writes))

-- and lies within the page
pub store_contents_within : {s : Sizes} {j : List Event} {q k n o v : ℕ} {words : List (ℕ × ℕ)} → 0 < s.words
    → IsIntervalContent s j q k n words → Has words (o, v) → o < s.words
store_contents_within {o = o} {v = v} some content h =
    let x = store_contents_word content (o, v) h in
    let below = mod-lt x.1.0 some in
    let same = ap (λ (w : ℕ × ℕ). w.0) x.2 in
    omega arith

-- and an interval that comes to some word stores in the page
pub store_contents_some : (s : Sizes) (j : List Event) (q k n : ℕ) (w : ℕ × ℕ) (words : List (ℕ × ℕ))
    → IsIntervalContent s j q k n (w ∷ words) → (i : ℕ) × IntervalContentHas s j q k n i
store_contents_some s j q k n w words content =
    let x = store_contents_word content w (0, refl) in (x.0, x.1)
