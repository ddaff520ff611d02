-- Places of events in journals that go on, and counts of their fronts.
use Rattle.std.proofs.Common.{◌≡◌, ℕ, ◌+◌, ◌<◌, ◌≤◌, List, [], ◌∷◌, ◌++◌, length, take, Bool, IsTrue, ◌==◌, ◌&&◌, ap, sym, ◌∙◌, subst, refl}
use Rattle.std.proofs.lemmas.Option.{slice_get_within, same_Some}
use Rattle.std.proofs.lemmas.List.{take-append-le}
use Rattle.std.proofs.lemmas.Bool.{eq-eqb, eqb-true, and_from, and_parts}
use Rattle.journal.specs.declared.event.Event.{Event}
use Rattle.journal.specs.declared.event.Kind.{Kind}
use Rattle.journal.specs.DidEvent.{event}
use Rattle.journal.specs.Events.{EventAt, event_count}
use Rattle.journal.specs.WellFormed.{Does}
use Rattle.base.proofs.SlicesAndCounts.{slice_get-append_left, slice_get-append_right, slice_get-last, slice_count_by-append, slice_count_by-mono, slice_count_by-take-le, slice_count_by-past, slice_count_by-within, slice_counted_at}

-- an event stands within its journal
pub event_place_inside : (j : List Event) (k : ℕ) (e : Event) → EventAt j k e → k < length j
event_place_inside j k e h = slice_get_within j k e h

-- one event stands at a place
pub event_place_same : (j : List Event) (k : ℕ) (e f : Event) → EventAt j k e → EventAt j k f → e ≡ f
event_place_same j k e f h g = same_Some e f (sym h ∙ g)

-- events keep their places as a journal goes on
pub event_place_longer : (j es : List Event) (k : ℕ) (e : Event) → EventAt j k e → EventAt (j ++ es) k e
event_place_longer j es k e h = slice_get-append_left j es k (event_place_inside j k e h) ∙ h

pub event_place_shorter : (j es : List Event) (k : ℕ) (e : Event) → k < length j → EventAt (j ++ es) k e → EventAt j k e
event_place_shorter j es k e lt h = sym (slice_get-append_left j es k lt) ∙ h

-- what follows stands behind
pub event_place_behind : (j es : List Event) (m : ℕ) (e : Event) → EventAt es m e → EventAt (j ++ es) (length j + m) e
event_place_behind j es m e h = slice_get-append_right j es m ∙ h

-- the event that is pushed stands last
pub event_place_at_end : (j : List Event) (e : Event) → EventAt (j ++ e ∷ []) (length j) e
event_place_at_end j e = slice_get-last j e

-- an event as what its processor does
pub event_place_does : (j : List Event) (k p : ℕ) (e : Event) → EventAt j k e → e.processor ≡ p → Does j k p e.kind
event_place_does j k p e h mine = let P : ℕ → Type 0 = λ q. EventAt j k (event q e.kind) in subst P mine h

-- two doings at one place are one
pub event_place_does_same : (j : List Event) (k p q : ℕ) (a b : Kind) → Does j k p a → Does j k q b → (p ≡ q) × (a ≡ b)
event_place_does_same j k p q a b h g =
    let e = event_place_same j k (event p a) (event q b) h g in
    (ap (λ x. x.processor) e, ap (λ x. x.kind) e)

-- a count over a journal that goes on
pub event_count-append : (is : Kind → Bool) (j es : List Event) (q : ℕ)
    → event_count is (j ++ es) q ≡ event_count is j q + event_count is es q
event_count-append is j es q = slice_count_by-append (λ (e : Event). (e.processor == q) && is e.kind) j es

-- a front of a journal that goes on counts the same
pub event_count-front : (is : Kind → Bool) (j es : List Event) (i q : ℕ) → i ≤ length j
    → event_count is (take i (j ++ es)) q ≡ event_count is (take i j) q
event_count-front is j es i q h = ap (λ (xs : List Event). event_count is xs q) (take-append-le i j es h)

-- counts of fronts rise
pub event_count-mono : (is : Kind → Bool) (j : List Event) (i k q : ℕ) → i ≤ k
    → event_count is (take i j) q ≤ event_count is (take k j) q
event_count-mono is j i k q h = slice_count_by-mono (λ (e : Event). (e.processor == q) && is e.kind) j i k h

pub event_count-front-le : (is : Kind → Bool) (j : List Event) (i q : ℕ) → event_count is (take i j) q ≤ event_count is j q
event_count-front-le is j i q = slice_count_by-take-le (λ (e : Event). (e.processor == q) && is e.kind) j i

-- and strictly past a counted place
pub event_count-past : (is : Kind → Bool) (j : List Event) (i k q : ℕ) (a : Kind) → Does j i q a → IsTrue (is a) → i < k
    → event_count is (take i j) q < event_count is (take k j) q
event_count-past is j i k q a h yes_is lt =
    slice_count_by-past (λ (e : Event). (e.processor == q) && is e.kind) j i k (event q a) h
    (and_from (q == q) (is a) (eq-eqb q q refl) yes_is) lt

pub event_count-inside : (is : Kind → Bool) (j : List Event) (i q : ℕ) (a : Kind) → Does j i q a → IsTrue (is a)
    → event_count is (take i j) q < event_count is j q
event_count-inside is j i q a h yes_is =
    slice_count_by-within (λ (e : Event). (e.processor == q) && is e.kind) j i (event q a) h
    (and_from (q == q) (is a) (eq-eqb q q refl) yes_is)

-- q does at this place what has number n of these kinds
pub record EventPlaceNumberedAt (is : Kind → Bool) (j : List Event) (q n : ℕ) : Type 0 where
  pub place : ℕ
  pub kind : Kind
  pub does : Does j place q kind
  pub counts : IsTrue (is kind)
  pub number : event_count is (take place j) q ≡ n

-- each number below the count has its place
pub event_place_numbered : (is : Kind → Bool) (j : List Event) (q n : ℕ) → n < event_count is j q → EventPlaceNumberedAt is j q n
event_place_numbered is j q n h =
    let c = slice_counted_at (λ (e : Event). (e.processor == q) && is e.kind) j n h in
    let both = and_parts (c.item.processor == q) (is c.item.kind) c.counts in
    record {
      place = c.place;
      kind = c.item.kind;
      does = event_place_does j c.place q c.item c.at (eqb-true c.item.processor q both.0);
      counts = both.1;
      number = c.before;
    }
