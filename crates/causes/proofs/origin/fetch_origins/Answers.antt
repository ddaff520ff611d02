use Rattle.std.proofs.Common.{◌≡◌, ℕ, ◌+◌, ◌*◌, ◌/◌, ◌<◌, ◌≤◌, List, Option, Some, length, slice_get, slice_index_or, slice_set, subst, refl, ap, ◌∙◌, arith}
use Rattle.std.specs.Prelude.{None}
use Rattle.std.proofs.lemmas.List.{length-set}
use Rattle.std.proofs.lemmas.Nat.{div-mul-add}
use Rattle.std.proofs.lemmas.Option.{slice_get-get_or}
use Rattle.journal.specs.declared.event.Event.{Event}
use Rattle.journal.specs.declared.event.Kind.TheVariants.{Fetch, Store}
use Rattle.journal.specs.DidEvent.{event}
use Rattle.journal.specs.Sizes.{Sizes}
use Rattle.journal.proofs.Order.EventPlacesAndCounts.{event_place_does_same}
use Rattle.judge.specs.GapTally.{gap_tally_place_of}
use Rattle.causes.specs.declared.brought.Applied.{Applied}
use Rattle.causes.specs.declared.brought.LookedUp.{LookedUp}
use Rattle.causes.specs.declared.origin.WordOrigin.{WordOrigin}
use Rattle.causes.specs.declared.brought.PageFetch.{PageFetch}
use Rattle.causes.specs.Origins.{IsOriginIfAny}
use Rattle.causes.specs.FetchedOrigins.{AreOriginsPartFetched, IsFetchedOriginFetch, IsFetchedOriginLookup, IsFetchedOriginAfter, FetchedOriginLastApplied}
use Rattle.causes.proofs.OriginSteps.{OriginStepFetchesWord, origin_step_fetched_next, origin_step_fetched_start, origin_step_fetched_word}
use Rattle.causes.proofs.origin.fetch_origins.Goals as goal

store_no_fetch : (a v w n r d : ℕ) → Store a v ≡ Fetch w n r d → ⊥
store_no_fetch a v w n r d is = cc

-- a fetch of the page of address a, which is one of the words, by a processor below sixteen
record FetchesAddress (s : Sizes) (j : List Event) (x : LookedUp) (f : PageFetch) (a : ℕ) : Type 0 where
  looked : IsFetchedOriginLookup j x
  fetch : IsFetchedOriginFetch s j f
  page : a / s.words ≡ f.page
  low : f.reader < 16

-- what it makes of a word
fetches_word : {s : Sizes} {j : List Event} {x : LookedUp} {f : PageFetch} {a : ℕ} (b : Option Applied) → FetchesAddress s j x f a
    → FetchedOriginLastApplied s j f.reader a f.place (λ q. q < 16) b → OriginStepFetchesWord s j f.place f.reader a b
fetches_word {s} {j} {x} {f} {a} b is last = record {
  no_store = λ v does.
      (let fetches = is.fetch.fetches in
      store_no_fetch a v fetches.0 f.page fetches.1 fetches.2
      (event_place_does_same j f.place f.reader f.reader (Store a v) (Fetch fetches.0 f.page fetches.1 fetches.2) does fetches.3).1);
  low = λ q i c brought. is.looked.processors i (event q (Store a brought.value)) brought.does;
  last = last;
}

-- a word of the page more
word_next : {s : Sizes} {j : List Event} {x : LookedUp} {f : PageFetch} {first a : ℕ} {words : List (Option WordOrigin)}
    → {b : Option Applied} (r : Option WordOrigin) → FetchesAddress s j x f a → first ≤ a
    → gap_tally_place_of a f.reader < length words → OriginStepFetchesWord s j f.place f.reader a b
    → IsFetchedOriginAfter (slice_index_or words (gap_tally_place_of a f.reader) None) f.place b r
    → AreOriginsPartFetched s j f.place f.reader first a words
    → AreOriginsPartFetched s j f.place f.reader first (a + 1) (slice_set words (gap_tally_place_of a f.reader) r)
word_next {s} {j} {x} {f} {first} {a} {words} {b} r is up within fetches after old =
    let o = slice_index_or words (gap_tally_place_of a f.reader) None in
    let there : slice_get words (gap_tally_place_of a f.reader) ≡ Some o =
    slice_get-get_or words (gap_tally_place_of a f.reader) None within in
    let before : IsOriginIfAny s j f.reader a f.place o =
    old.others a f.reader o is.low (λ mine least below. absurd (omega arith)) there in
    origin_step_fetched_next r is.low up (origin_step_fetched_word o b r fetches after before) old

pub loop-offset-init : goal.loop-offset-init
loop-offset-init c = record {
  long = refl;
  fetched = λ s j looked fetch size before.
      (let start : c.args.fetch.now.page * c.args.size ≡ c.args.fetch.now.page * c.args.size + 0 = omega arith in
      subst (λ end. AreOriginsPartFetched s j c.args.fetch.now.place c.args.fetch.now.reader
      (c.args.fetch.now.page * c.args.size) end c.args.words.now) start
      (origin_step_fetched_start s j c.args.fetch.now.place c.args.fetch.now.reader (c.args.fetch.now.page * c.args.size)
      c.args.words.now before));
}

pub loop-offset-preserved : goal.loop-offset-preserved
loop-offset-preserved c =
    let f = c.args.fetch.now in
    let size = c.args.size in
    let offset = c.loop-offset.offset in
    let a = f.page * size + offset in
    let words = c.loop-offset.words in
    let old = c.loop-offset.invariant in
    let lt = c.loop-offset-test.true in
    let told = c.requires.told in
    let long = told.6.long in
    let same = told.4 in
    let page = c.requires.page in
    let low = c.requires.reader in
    let was = old.long in
    let within : gap_tally_place_of a f.reader < length words = omega arith in
    record {
      long = length-set words (gap_tally_place_of a f.reader) c.origin_after.result ∙ old.long;
      fetched = λ s j looked fetch is before.
          (let page : a / s.words ≡ f.page =
          ap (λ n. (f.page * n + offset) / s.words) is ∙ div-mul-add f.page s.words offset (omega arith) in
          let fetches : FetchesAddress s j c.args.looked.now f a =
          record { looked = looked; fetch = fetch; page = page; low = low } in
          let next : a + 1 ≡ f.page * size + (offset + 1) = omega arith in
          subst
          (λ end. AreOriginsPartFetched s j f.place f.reader (f.page * size) end
          (slice_set words (gap_tally_place_of a f.reader) c.origin_after.result)) next
          (word_next c.origin_after.result fetches (omega arith) within
          (fetches_word c.last_brought.result fetches (c.last_brought.ensures s j looked fetch page)) c.origin_after.ensures
          (old.fetched s j looked fetch is before)));
    }

pub returns : goal.returns
returns c = λ s j looked fetch is before.
    (let end = c.loop-offset-test.false in
    let top = c.loop-offset.auto.offset-end in
    let all : c.loop-offset.offset ≡ c.args.size = omega arith in
    subst (λ n. AreOriginsPartFetched s j c.args.fetch.now.place c.args.fetch.now.reader
    (c.args.fetch.now.page * c.args.size) (c.args.fetch.now.page * c.args.size + n) c.loop-offset.words) all
    (c.loop-offset.invariant.fetched s j looked fetch is before))
