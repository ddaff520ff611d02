-- The words that events write, one address after the other.
use Rattle.std.proofs.Common.{◌≡◌, ◌≢◌, ℕ, ◌+◌, ◌*◌, ◌/◌, ◌<◌, ◌≤◌, inl, inr, List, [], ◌∷◌, ◌++◌, Option, Some, None, length, subst, sym, refl, ap, ◌∙◌, arith}
use Rattle.std.proofs.lemmas.Bool.{cases_eq, cases_lt}
use Rattle.std.proofs.lemmas.Option.{slice_get_within}
use Rattle.base.specs.InOrderOnce.{Has, InOrder}
use Rattle.base.proofs.SlicesAndCounts.{slice_push_cases, slice_get-append_left, slice_get-last}
use Rattle.journal.specs.declared.event.Event.{Event}
use Rattle.journal.specs.declared.event.Kind.TheVariants.{Fetch, Store}
use Rattle.journal.specs.DidEvent.{event}
use Rattle.journal.specs.Events.{EventAt}
use Rattle.journal.specs.Sizes.{Sizes}
use Rattle.journal.proofs.Order.EventPlacesAndCounts.{event_place_same}
use Rattle.judge.specs.Prelude.{IsEventInSizes}
use Rattle.causes.specs.declared.origin.WordOrigin.{WordOrigin}
use Rattle.causes.specs.declared.written.WrittenRange.{WrittenRange}
use Rattle.causes.specs.declared.written.WrittenWord.{WrittenWord}
use Rattle.journal.specs.OriginWrites.{OriginWritesWord}
use Rattle.causes.specs.Origins.{IsOrigin, IsOriginIfAny}
use Rattle.causes.proofs.OriginSteps.{origin_step_in_page}
use Rattle.causes.specs.EventWrites.{AreEventWrites, AreEventWritesAmong, IsEventWriteOfStore, IsEventWriteRange}

-- a word that has its origin at place k is written there
pub written_word_now : (s : Sizes) (j : List Event) (p a k i : ℕ) → IsOrigin s j p a (k + 1) (record { store = i; write = k })
    → OriginWritesWord s j p a k i
written_word_now s j p a k i is = is.writes

-- one that doesn't isn't
pub written_word_not : (s : Sizes) (j : List Event) (p a k : ℕ) (o : Option WordOrigin) → IsOriginIfAny s j p a (k + 1) o
    → ((x : WordOrigin) → o ≡ Some x → x.write ≢ k) → (i : ℕ) → ¬ OriginWritesWord s j p a k i
written_word_not s j p a k None none away i = none k i (omega arith)
written_word_not s j p a k (Some x) is away i =
    let isnt = away x refl in
    let before = is.before in
    is.last k i (omega arith) (omega arith)

-- so where no store is told
pub written_word_none : (o : Option WordOrigin) (k : ℕ) (r : Option ℕ) → ((i : ℕ) → r ≢ Some i) → IsEventWriteOfStore o k r
    → (x : WordOrigin) → o ≡ Some x → x.write ≢ k
written_word_none o k None none is = is
written_word_none o k (Some i) none is = absurd (none i refl)

-- the words below this address, each of them below it
pub record AreWrittenWordsBelow (s : Sizes) (j : List Event) (k p from to : ℕ) (written : List WrittenWord) : Type 0 where
  pub among : AreEventWritesAmong s j k p (record { first = from; end = to }) written
  pub below : (x : WrittenWord) → Has written x → x.address < to

-- what is written in all of the range
pub written_words_end : (s : Sizes) (j : List Event) (k p : ℕ) (r : WrittenRange) (to : ℕ) (written : List WrittenWord) → r.end ≤ to
    → AreWrittenWordsBelow s j k p r.first to written → AreEventWritesAmong s j k p r written
written_words_end s j k p r to written le are = record {
  each = are.among.each;
  all = λ a i low high writes. are.among.all a i low (omega arith) writes;
  rising = are.among.rising;
}

-- an address more that is written
pub written_word_next : {s : Sizes} {j : List Event} {k p from a : ℕ} {written : List WrittenWord} (i : ℕ)
    → OriginWritesWord s j p a k i → AreWrittenWordsBelow s j k p from a written
    → AreWrittenWordsBelow s j k p from (a + 1) (written ++ record { address = a; store = i } ∷ [])
written_word_next {s} {j} {k} {p} {from} {a} {written} i writes old = record {
  among = record { each = each; all = all; rising = rising };
  below = λ x has. elim (slice_push_cases written new has.0 x has.1) [
    | inl was ↦ (let lt = old.below x (has.0, was.1) in omega arith)
    | inr is ↦ (let same = ap (λ (y : WrittenWord). y.address) is.1 in omega arith)
  ];
}
  where
    new : WrittenWord
    new = record { address = a; store = i }

    each : (x : WrittenWord) → Has (written ++ new ∷ []) x → OriginWritesWord s j p x.address k x.store
    each x has = elim (slice_push_cases written new has.0 x has.1) [
      | inl was ↦ old.among.each x (has.0, was.1)
      | inr is ↦ subst (λ (y : WrittenWord). OriginWritesWord s j p y.address k y.store) is.1 writes
    ]

    all : (b n : ℕ) → from ≤ b → b < a + 1 → OriginWritesWord s j p b k n
        → (x : WrittenWord) × Has (written ++ new ∷ []) x × (x.address ≡ b)
    all b n low high w = elim (cases_eq b a) [
      | inl is ↦ (new, (length written, slice_get-last written new), sym is)
      | inr isnt ↦
          (let x = old.among.all b n low (omega arith) w in
          let at = x.1 in (
            x.0,
            (at.0, slice_get-append_left written (new ∷ []) at.0 (slice_get_within written at.0 x.0 at.1) ∙ at.1),
            x.2,
          ))
    ]

    rising : InOrder (λ (x y : WrittenWord). x.address < y.address) (written ++ new ∷ [])
    rising m n x y lt at to = elim (slice_push_cases written new n y to) [
      | inl was ↦ elim (slice_push_cases written new m x at) [
        | inl first ↦ old.among.rising m n x y lt first.1 was.1
        | inr is ↦ (let inside = slice_get_within written n y was.1 in absurd (omega (arith, is.0)))
      ]
      | inr is ↦ elim (slice_push_cases written new m x at) [
        | inl first ↦
            (let same = ap (λ (z : WrittenWord). z.address) is.1 in
            let below = old.below x (m, first.1) in
            omega arith)
        | inr later ↦ absurd (omega (arith, later.0, is.0, lt))
      ]
    ]

-- one that isn't
pub written_word_others : {s : Sizes} {j : List Event} {k p from a : ℕ} {written : List WrittenWord}
    → ((i : ℕ) → ¬ OriginWritesWord s j p a k i) → AreWrittenWordsBelow s j k p from a written
    → AreWrittenWordsBelow s j k p from (a + 1) written
written_word_others {s} {j} {k} {p} {from} {a} {written} away old = record {
  among = record { each = old.among.each; all = all; rising = old.among.rising };
  below = λ x has. (let lt = old.below x has in omega arith);
}
  where
    all : (b n : ℕ) → from ≤ b → b < a + 1 → OriginWritesWord s j p b k n
        → (x : WrittenWord) × Has written x × (x.address ≡ b)
    all b n low high w = elim (cases_eq b a) [
      | inl is ↦ absurd (away n (subst (λ m. OriginWritesWord s j p m k n) is w))
      | inr isnt ↦ old.among.all b n low (omega arith) w
    ]

-- what is written in the range is all that is
pub written_words_all : (s : Sizes) (j : List Event) (k : ℕ) (e : Event) (r : WrittenRange) (written : List WrittenWord) → EventAt j k e
    → IsEventWriteRange s j k e.processor r → AreEventWritesAmong s j k e.processor r written → AreEventWrites s j k written
written_words_all s j k e r written at range among = record {
  each = λ f x there has.
      subst (λ (g : Event). OriginWritesWord s j g.processor x.address k x.store) (event_place_same j k e f at there)
      (among.each x has);
  all = λ q a i writes.
      (let in_range = range q a i writes in
      among.all a i in_range.1 in_range.2 (subst (λ p. OriginWritesWord s j p a k i) in_range.0 writes));
  rising = among.rising;
}

written_word_store_no_fetch : (a v w n r d : ℕ) → Store a v ≢ Fetch w n r d
written_word_store_no_fetch a v w n r d is = cc

written_word_fetch_page : (w n r d x m y z : ℕ) → Fetch w n r d ≡ Fetch x m y z → n ≡ m
written_word_fetch_page w n r d x m y z is = cc

-- what a fetch writes lies in its page
pub written_word_by_fetch : {w n r d : ℕ} (s : Sizes) (j : List Event) (k : ℕ) (e : Event)
    → ((m : ℕ) (f : Event) → EventAt j m f → IsEventInSizes s f) → EventAt j k e → e.kind ≡ Fetch w n r d
    → IsEventWriteRange s j k e.processor (record { first = n * s.words; end = n * s.words + s.words })
written_word_by_fetch {w} {n} {r} {d} s j k e within at kind q a i (inl own) =
    let same = event_place_same j k e (event q (Store a own.1.0)) at own.1.1 in
    absurd (written_word_store_no_fetch a own.1.0 w n r d (sym (ap (λ (f : Event). f.kind) same) ∙ kind))
written_word_by_fetch {w} {n} {r} {d} s j k e within at kind q a i (inr last) = (
  sym (ap (λ (f : Event). f.processor) same),
  range.0,
  range.1,
)
  where
    same : e ≡ event q (Fetch last.brought.fetches.0 (a / s.words) last.brought.fetches.1 last.brought.fetches.2)
    same =
        event_place_same j k e
        (event q (Fetch last.brought.fetches.0 (a / s.words) last.brought.fetches.1 last.brought.fetches.2)) at
        last.brought.fetches.3

    page : n ≡ a / s.words
    page =
        written_word_fetch_page w n r d last.brought.fetches.0 (a / s.words) last.brought.fetches.1 last.brought.fetches.2
        (sym kind ∙ ap (λ (f : Event). f.kind) same)

    some : 0 < s.words
    some = elim (cases_lt 0 s.words) [
      | inl lt ↦ lt
      | inr none ↦
          (let zero : s.words ≡ 0 = omega arith in
          let low : a < s.pages * s.words = (within i (event last.by (Store a last.brought.value)) last.brought.does).kind in
          let out : a < s.pages * 0 = subst (λ x. a < s.pages * x) zero low in
          absurd (omega arith))
    ]

    range : (n * s.words ≤ a) × (a < n * s.words + s.words)
    range = origin_step_in_page a s.words n some (sym page)
