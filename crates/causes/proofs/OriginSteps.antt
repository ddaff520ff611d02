-- The origins of words as the history goes on. An event that writes no word of the copy keeps the word's origin; one that
-- does is the new one's. A fetch writes the words of its page one after the other: those below an address are done.
use Rattle.std.proofs.Common.{◌≡◌, ◌≢◌, ℕ, ◌+◌, ◌*◌, ◌-◌, ◌/◌, ◌<◌, ◌≤◌, inl, inr, List, Option, Some, length, slice_get, slice_set, subst, sym, refl, ap, ◌∙◌, arith}
use Rattle.std.specs.Prelude.{None}
use Rattle.std.proofs.lemmas.Bool.{cases_eq, cases_lt}
use Rattle.std.proofs.lemmas.List.{length-set}
use Rattle.std.proofs.lemmas.Nat.{div-mul-add}
use Rattle.std.proofs.lemmas.Option.{slice_get_within}
use Rattle.base.proofs.SliceSets.{slice_get-set_found, slice_get-set_other}
use Rattle.journal.specs.declared.event.Event.{Event}
use Rattle.journal.specs.declared.event.Kind.TheVariants.{Fetch, Store}
use Rattle.journal.specs.DidEvent.{event}
use Rattle.journal.specs.Events.{EventAt}
use Rattle.journal.specs.PageImages.{FetchesPageImage}
use Rattle.journal.specs.Sizes.{Sizes}
use Rattle.journal.specs.WellFormed.{Does}
use Rattle.journal.proofs.Order.EventPlacesAndCounts.{event_place_same}
use Rattle.judge.specs.GapTally.{gap_tally_place_of}
use Rattle.causes.specs.declared.brought.Applied.{Applied}
use Rattle.causes.specs.declared.origin.WordOrigin.{WordOrigin}
use Rattle.causes.specs.declared.brought.PageFetch.{PageFetch}
use Rattle.journal.specs.OriginWrites.{IsOriginWriteBrought, OriginWritesWord}
use Rattle.causes.specs.Origins.{IsOrigin, IsOriginIfAny}
use Rattle.causes.specs.FetchedOrigins.{AreOriginsBefore, AreOriginsPartFetched, IsFetchedOriginAfter, FetchedOriginLastApplied}
use Rattle.causes.proofs.StoreRowSteps.{store_row_same}

-- an event that doesn't write the word keeps its origin
pub origin_step_kept : (s : Sizes) (j : List Event) (p a k : ℕ) (o : Option WordOrigin) → ((i : ℕ) → ¬ OriginWritesWord s j p a k i)
    → IsOriginIfAny s j p a k o → IsOriginIfAny s j p a (k + 1) o
origin_step_kept s j p a k None away none = λ m i lt. elim (cases_eq m k) [
  | inl is ↦ λ w. away i (subst (λ n. OriginWritesWord s j p a n i) is w)
  | inr isnt ↦ none m i (omega arith)
]
origin_step_kept s j p a k (Some x) away is = record {
  before = (let lt = is.before in omega arith);
  writes = is.writes;
  last = λ m i low lt. elim (cases_eq m k) [
    | inl same ↦ λ w. away i (subst (λ n. OriginWritesWord s j p a n i) same w)
    | inr isnt ↦ is.last m i low (omega arith)
  ];
}

-- one that does is the new one's
pub origin_step_written : (s : Sizes) (j : List Event) (p a k i : ℕ) → OriginWritesWord s j p a k i
    → IsOrigin s j p a (k + 1) (record { store = i; write = k })
origin_step_written s j p a k i writes = record {
  before = omega arith;
  writes = writes;
  last = λ m n low lt. absurd (omega arith);
}

-- before the first event there is none
pub origin_steps_start : (s : Sizes) (j : List Event) (words : List (Option WordOrigin))
    → length words ≡ (s.pages * s.words) * 16
    → ((n : ℕ) (o : Option WordOrigin) → slice_get words n ≡ Some o → o ≡ None) → AreOriginsBefore s j 0 words
origin_steps_start s j words long none = record {
  long = long;
  each = λ a q o lt at. subst (IsOriginIfAny s j q a 0) (sym (none (gap_tally_place_of a q) o at)) (λ m i low. absurd (omega arith));
}

-- an event writes no word but of its own processor's copy: the one that it stores, or those of the page that it fetches
pub origin_step_own_only : {e : Event} (s : Sizes) (j : List Event) (p a k i : ℕ) → EventAt j k e
    → ((v : ℕ) → e ≢ event p (Store a v)) → ((w r d : ℕ) → e ≢ event p (Fetch w (a / s.words) r d))
    → ¬ OriginWritesWord s j p a k i
origin_step_own_only {e} s j p a k i at stores fetches (inl own) =
    stores own.1.0 (event_place_same j k e (event p (Store a own.1.0)) at own.1.1)
origin_step_own_only {e} s j p a k i at stores fetches (inr last) =
    let f = last.brought.fetches in
    fetches f.0 f.1 f.2 (event_place_same j k e (event p (Fetch f.0 (a / s.words) f.1 f.2)) at f.3)

-- an event that neither stores nor fetches writes none
pub origin_step_quiet : (s : Sizes) (j : List Event) (k : ℕ) (e : Event) (words : List (Option WordOrigin)) → EventAt j k e
    → ((a v : ℕ) → e.kind ≢ Store a v) → ((w n r d : ℕ) → e.kind ≢ Fetch w n r d) → AreOriginsBefore s j k words
    → AreOriginsBefore s j (k + 1) words
origin_step_quiet s j k e words at stores fetches old = record {
  long = old.long;
  each = λ a q o lt there.
      origin_step_kept s j q a k o
      (λ i. origin_step_own_only s j q a k i at (λ v is. stores a v (ap (λ (f : Event). f.kind) is))
      (λ w r d is. fetches w (a / s.words) r d (ap (λ (f : Event). f.kind) is)))
      (old.each a q o lt there);
}

origin_step_store_address : (a v b w : ℕ) → Store a v ≡ Store b w → a ≡ b
origin_step_store_address a v b w is = cc

origin_step_store_no_fetch : (a v w n r d : ℕ) → Store a v ≢ Fetch w n r d
origin_step_store_no_fetch a v w n r d is = cc

origin_step_fetch_page : (w n r d x m y z : ℕ) → Fetch w n r d ≡ Fetch x m y z → n ≡ m
origin_step_fetch_page w n r d x m y z is = cc

-- a store writes the word of its address
pub origin_step_stored : {s : Sizes} {j : List Event} {k : ℕ} {words : List (Option WordOrigin)} (p a v : ℕ) → Does j k p (Store a v)
    → p < 16 → AreOriginsBefore s j k words
    → AreOriginsBefore s j (k + 1) (slice_set words (gap_tally_place_of a p) (Some (record { store = k; write = k })))
origin_step_stored {s} {j} {k} {words} p a v does low old = record {
  long = length-set words (gap_tally_place_of a p) (Some own) ∙ old.long;
  each = each;
}
  where
    own : WordOrigin
    own = record { store = k; write = k }

    each : (b q : ℕ) (o : Option WordOrigin) → q < 16
        → slice_get (slice_set words (gap_tally_place_of a p) (Some own)) (gap_tally_place_of b q) ≡ Some o
        → IsOriginIfAny s j q b (k + 1) o
    each b q o lt at = elim (cases_eq (gap_tally_place_of b q) (gap_tally_place_of a p)) [
      | inl same ↦
          (let both = store_row_same b q a p lt low same in
          let is : Some own ≡ o =
          slice_get-set_found words (gap_tally_place_of a p) (Some own) o
          (subst (λ m. slice_get (slice_set words (gap_tally_place_of a p) (Some own)) m ≡ Some o) same at) in
          subst (IsOriginIfAny s j q b (k + 1)) is
          (origin_step_written s j q b k k (inl (
            refl,
            (v, subst (λ r. Does j k r (Store b v)) (sym both.1) (subst (λ c. Does j k p (Store c v)) (sym both.0) does)),
          ))))
      | inr isnt ↦
          origin_step_kept s j q b k o
          (λ i. origin_step_own_only s j q b k i does
          (λ w is. isnt
          (let by = ap (λ (f : Event). f.processor) is in
          let to = origin_step_store_address a v b w (ap (λ (f : Event). f.kind) is) in
          omega arith))
          (λ w r d is. origin_step_store_no_fetch a v w (b / s.words) r d (ap (λ (f : Event). f.kind) is)))
          (old.each b q o lt (sym (slice_get-set_other words (gap_tally_place_of a p) (gap_tally_place_of b q) (Some own) isnt) ∙ at))
    ]

-- before a fetch's first word none is done
pub origin_step_fetched_start : (s : Sizes) (j : List Event) (k p from : ℕ) (words : List (Option WordOrigin))
    → AreOriginsBefore s j k words → AreOriginsPartFetched s j k p from from words
origin_step_fetched_start s j k p from words old = record {
  long = old.long;
  fetched = λ a o low high at. absurd (omega arith);
  others = λ a q o lt away at. old.each a q o lt at;
}

-- p's event at place k, a fetch, brings a's word from processors below sixteen, and of these stores b is applied last
pub record OriginStepFetchesWord (s : Sizes) (j : List Event) (k p a : ℕ) (b : Option Applied) : Type 0 where
  pub no_store : (v : ℕ) → ¬ Does j k p (Store a v)
  pub low : (q i c : ℕ) → IsOriginWriteBrought s j p a k q i c → q < 16
  pub last : FetchedOriginLastApplied s j p a k (λ q. q < 16) b

-- what the fetch makes of a word
pub origin_step_fetched_word : {s : Sizes} {j : List Event} {k p a : ℕ} (o : Option WordOrigin) (b : Option Applied) (r : Option WordOrigin) → OriginStepFetchesWord s j k p a b
    → IsFetchedOriginAfter o k b r → IsOriginIfAny s j p a k o → IsOriginIfAny s j p a (k + 1) r
origin_step_fetched_word {s} {j} {k} {p} {a} o None r x is old =
    subst (IsOriginIfAny s j p a (k + 1)) (sym is) (origin_step_kept s j p a k o away old)
  where
    away : (i : ℕ) → ¬ OriginWritesWord s j p a k i
    away i (inl own) = x.no_store own.1.0 own.1.1
    away i (inr last) = x.last last.by i last.closed (x.low last.by i last.closed last.brought) last.brought
origin_step_fetched_word {s} {j} {k} {p} {a} o (Some b) r x is old =
    subst (IsOriginIfAny s j p a (k + 1)) (sym is)
    (origin_step_written s j p a k b.store (inr (record {
      by = x.last.by;
      closed = b.closed;
      brought = x.last.brought;
      last = λ q i c brought. x.last.last q i c (x.low q i c brought) brought;
    })))

-- a word more
pub origin_step_fetched_next : {s : Sizes} {j : List Event} {k p from a : ℕ} {words : List (Option WordOrigin)}
    → (r : Option WordOrigin) → p < 16 → from ≤ a → IsOriginIfAny s j p a (k + 1) r
    → AreOriginsPartFetched s j k p from a words
    → AreOriginsPartFetched s j k p from (a + 1) (slice_set words (gap_tally_place_of a p) r)
origin_step_fetched_next {s} {j} {k} {p} {from} {a} {words} r low le now old = record {
  long = length-set words (gap_tally_place_of a p) r ∙ old.long;
  fetched = fetched;
  others = λ b q o lt away at.
      old.others b q o lt (λ mine up below. away mine up (omega arith))
      (sym (slice_get-set_other words (gap_tally_place_of a p) (gap_tally_place_of b q) r (λ same.
      let both = store_row_same b q a p lt low same in
      let one = both.0 in
      away both.1 (omega arith) (omega arith))) ∙ at);
}
  where
    fetched : (b : ℕ) (o : Option WordOrigin) → from ≤ b → b < a + 1
        → slice_get (slice_set words (gap_tally_place_of a p) r) (gap_tally_place_of b p) ≡ Some o → IsOriginIfAny s j p b (k + 1) o
    fetched b o up below at = elim (cases_eq b a) [
      | inl same ↦
          (let is : r ≡ o =
          slice_get-set_found words (gap_tally_place_of a p) r o
          (subst (λ c. slice_get (slice_set words (gap_tally_place_of a p) r) (gap_tally_place_of c p) ≡ Some o) same at) in
          subst (IsOriginIfAny s j p b (k + 1)) is
          (subst (λ c. IsOriginIfAny s j p c (k + 1) r) (sym same) now))
      | inr isnt ↦
          old.fetched b o up (omega arith)
          (sym (slice_get-set_other words (gap_tally_place_of a p) (gap_tally_place_of b p) r (λ same. isnt (omega arith))) ∙ at)
    ]

-- the words of a page
pub origin_step_in_page : (a w n : ℕ) → 0 < w → a / w ≡ n → (n * w ≤ a) × (a < n * w + w)
origin_step_in_page a w n some is = subst (λ m. (m * w ≤ a) × (a < m * w + w)) is (omega arith, omega arith)

-- all words of the page
pub origin_step_fetched_all : {s : Sizes} {j : List Event} {k p : ℕ} {words : List (Option WordOrigin)} (n : ℕ)
    → FetchesPageImage j k p n → AreOriginsPartFetched s j k p (n * s.words) (n * s.words + s.words) words
    → AreOriginsBefore s j (k + 1) words
origin_step_fetched_all {s} {j} {k} {p} {words} n fetches old = record { long = old.long; each = each }
  where
    each : (a q : ℕ) (o : Option WordOrigin) → q < 16 → slice_get words (gap_tally_place_of a q) ≡ Some o
        → IsOriginIfAny s j q a (k + 1) o
    each a q o lt at = elim (cases_eq q p) [
      | inl mine ↦ elim (cases_eq (a / s.words) n) [
        | inl is ↦
            (let range = origin_step_in_page a s.words n some is in
            subst (λ x. IsOriginIfAny s j x a (k + 1) o) (sym mine)
            (old.fetched a o range.0 range.1 (subst (λ x. slice_get words (gap_tally_place_of a x) ≡ Some o) mine at)))
        | inr isnt ↦
            origin_step_kept s j q a k o (λ i. quiet i (λ _ same. isnt (sym same)))
            (old.others a q o lt (λ _ up below. isnt (out_page up below)) at)
      ]
      | inr other ↦
          origin_step_kept s j q a k o (λ i. quiet i (λ by _. other (sym by)))
          (old.others a q o lt (λ by _ _. other by) at)
    ]
      where
        some : 0 < s.words
        some = elim (cases_lt 0 s.words) [
          | inl lt ↦ lt
          | inr none ↦
              (let zero : s.words ≡ 0 = omega arith in
              let long = old.long in
              let within = slice_get_within words (gap_tally_place_of a q) o at in
              absurd (let lt : gap_tally_place_of a q < (s.pages * 0) * 16 =
              subst (λ x. gap_tally_place_of a q < (s.pages * x) * 16) zero (omega arith) in
              omega arith))
        ]

        out_page : n * s.words ≤ a → a < n * s.words + s.words → a / s.words ≡ n
        out_page up below =
            let rest : a ≡ n * s.words + (a - n * s.words) = omega arith in
            ap (λ (x : ℕ). x / s.words) rest ∙ div-mul-add n s.words (a - n * s.words) (omega arith)

        quiet : (i : ℕ) → (p ≡ q → n ≡ a / s.words → ⊥) → ¬ OriginWritesWord s j q a k i
        quiet i away =
            origin_step_own_only s j q a k i fetches.3
            (λ v is. origin_step_store_no_fetch a v fetches.0 n fetches.1 fetches.2 (sym (ap (λ (f : Event). f.kind) is)))
            (λ x y z is.
            away (ap (λ (f : Event). f.processor) is)
            (origin_step_fetch_page fetches.0 n fetches.1 fetches.2 x (a / s.words) y z (ap (λ (f : Event). f.kind) is)))

-- so after a fetch at place k that was taken note of
pub origin_step_fetched_done : {s : Sizes} {j : List Event} {words : List (Option WordOrigin)} (f : PageFetch) (k size : ℕ)
    → f.place ≡ k → size ≡ s.words → FetchesPageImage j f.place f.reader f.page
    → AreOriginsPartFetched s j f.place f.reader (f.page * size) (f.page * size + size) words
    → AreOriginsBefore s j (k + 1) words
origin_step_fetched_done {s} {j} {words} f k size place is fetches old =
    subst (λ n. AreOriginsBefore s j (n + 1) words) place
    (origin_step_fetched_all f.page fetches
    (subst (λ z. AreOriginsPartFetched s j f.place f.reader (f.page * z) (f.page * z + z) words) is old))
