-- Behind an arrival of each processor, a journal says what it says from a base.
use Rattle.std.proofs.Common.{◌≡◌, ◌≢◌, ℕ, ◌+◌, ◌-◌, ◌<◌, ◌≤◌, ◌⊎◌, inl, inr, List, [], ◌++◌, length, take, drop, subst, subst₂, sym, refl, ap, ◌∙◌, arith}
use Rattle.std.proofs.Math.Seq.{take-add}
use Rattle.std.proofs.lemmas.Bool.{cases_lt}
use Rattle.std.proofs.lemmas.Option.{none-some}
use Rattle.journal.specs.declared.event.Event.{Event}
use Rattle.journal.specs.declared.event.Kind.{Kind}
use Rattle.journal.specs.declared.event.Kind.TheVariants.{Arrive}
use Rattle.journal.specs.DidEvent.{event}
use Rattle.journal.specs.Events.{EventAt, event_address, event_count, event_arrives, event_departs}
use Rattle.journal.specs.WellFormed.{Does}
use Rattle.journal.specs.EventsInRange.{EventProcessorsInRange}
use Rattle.journal.specs.Races.{Race, IsFirstRace, RaceFree}
use Rattle.journal.specs.Base.{Base, base_arrivals_cut}
use Rattle.journal.specs.RacesFromBase.{IsFirstRaceFromBase, RaceFreeFromBase}
use Rattle.journal.specs.Opening.{IsOpening}
use Rattle.base.proofs.SlicesAndCounts.{slice_append_cases, slice_get-drop, slice_get-from_take}
use Rattle.journal.proofs.Order.EventPlacesAndCounts.{event_place_inside, event_place_does_same, event_count-inside, event_place_numbered}
use Rattle.journal.proofs.FromBase.OrderOfLeft.{IsEvenOrderOfLeft}
use Rattle.journal.proofs.FromBase.RacesAcrossCut.{race_across_cut_split, race_across_cut_free, first_race}

-- the events of a part stand in the whole
pub opening_as_base_behind : (n m : ℕ) (xs : List Event) (i : ℕ) (e : Event) → EventAt (take m (drop n xs)) i e → EventAt xs (n + i) e
opening_as_base_behind n m xs i e at = sym (slice_get-drop xs n i) ∙ slice_get-from_take (drop n xs) m i e at

module _ (processors : ℕ) (xs : List Event) (x : IsOpening processors xs) where
  -- where a processor does something, it is its arrival
  opening_as_base_here : (i q : ℕ) (k : Kind) → Does xs i q k → (i ≡ q) × (k ≡ Arrive)
  opening_as_base_here i q k does =
      let within = event_place_inside xs i (event q k) does in
      let long = x.long in
      let is = event_place_does_same xs i q i k Arrive does (x.each i (omega arith)) in
      (sym is.0, is.1)

  opening_as_base_arrives_once : (q : ℕ) → q < processors → event_count event_arrives xs q ≡ 1
  opening_as_base_arrives_once q lt = elim (cases_lt 1 (event_count event_arrives xs q)) [
    | inr le ↦ (let more = event_count-inside event_arrives xs q q Arrive (x.each q lt) refl in omega arith)
    | inl more ↦
        (let first = event_place_numbered event_arrives xs q 0 (omega arith) in
        let second = event_place_numbered event_arrives xs q 1 more in
        let same : first.place ≡ second.place =
        (opening_as_base_here first.place q first.kind first.does).0 ∙ sym (opening_as_base_here second.place q second.kind second.does).0 in
        let number = first.number in
        let other = second.number in
        let alike = ap (λ n. event_count event_arrives (take n xs) q) same in
        absurd (omega arith))
  ]

  opening_as_base_departs_never : (q : ℕ) → event_count event_departs xs q ≡ 0
  opening_as_base_departs_never q = elim (cases_lt 0 (event_count event_departs xs q)) [
    | inr le ↦ omega arith
    | inl more ↦ (let n = event_place_numbered event_departs xs q 0 more in let counts = n.counts in
        absurd (cc (counts, ap (λ k. event_departs k) (opening_as_base_here n.place q n.kind n.does).1)))
  ]

  pub opening_as_base_even : (b : Base) (j : List Event) → base_arrivals_cut b ≡ 1 → EventProcessorsInRange processors j → IsEvenOrderOfLeft b xs j 1
  opening_as_base_even b j one present = record {
    arrivals = λ m e at. opening_as_base_arrives_once e.processor (present m e at);
    departures = λ m e at. (let none = opening_as_base_departs_never e.processor in omega arith);
  }

  -- and no race begins there
  pub opening_as_base_races : (j : List Event) (i k : ℕ) → i < length xs → ¬ Race (xs ++ j) i k
  opening_as_base_races j i k lt r = elim (slice_append_cases xs j i r.first r.first_at) [
    | inr left ↦ absurd (omega (arith, left.1))
    | inl first ↦ (let is = (opening_as_base_here i r.first.processor r.first.kind first.1).1 in
        none-some r.conflict.address (sym (ap (λ a. event_address a) is) ∙ r.conflict.first))
  ]

-- what stands before a journal for the race checker: arrivals of all where something was cut off, and else nothing
pub record IsOpeningAsBase (b : Base) (checked j : List Event) (size : ℕ) : Type 0 where
  pub opening : List Event
  pub number : ℕ
  pub is : checked ≡ opening ++ j
  pub long : length opening ≡ size
  pub even : IsEvenOrderOfLeft b opening j number
  pub none : (i k : ℕ) → i < length opening → ¬ Race (opening ++ j) i k

-- what is checked of events behind an opening: from its end on where nothing was cut off, and else with it
pub opening_as_base_checked : (b : Base) (processors first count : ℕ) (items : List Event)
    → IsOpening processors (take processors items) → EventProcessorsInRange processors items
    → ((b.cut ≡ 0) × (first ≡ processors)) ⊎ ((b.cut ≢ 0) × (first ≡ 0))
    → IsOpeningAsBase b (take (processors + count - first) (drop first items)) (take count (drop processors items))
    (processors - first)
opening_as_base_checked b processors first count items opening present (inl none) = record {
  opening = [];
  number = 0;
  is =
      (let all : processors + count - first ≡ count = let x = none.1 in omega arith in
      subst₂ (λ (m n : ℕ). take m (drop n items) ≡ take count (drop processors items)) (sym all) (sym none.1)
      refl);
  long = (let x = none.1 in omega arith);
  even = record { arrivals = λ m e at. refl; departures = λ m e at. (let x = none.0 in omega arith) };
  none = λ i k lt. absurd (omega arith);
}
opening_as_base_checked b processors first count items opening present (inr some) = record {
  opening = take processors items;
  number = 1;
  is =
      (let all : processors + count - first ≡ processors + count = let x = some.1 in omega arith in
      subst₂
      (λ (m n : ℕ). take m (drop n items) ≡ take processors items ++ take count (drop processors items))
      (sym all) (sym some.1) (take-add processors count items));
  long = (let x = some.1 in opening.long ∙ omega arith);
  even =
      opening_as_base_even processors (take processors items) opening b (take count (drop processors items))
      (let x = some.0 in omega arith)
      (λ i e at. present (processors + i) e (opening_as_base_behind processors count items i e at));
  none = opening_as_base_races processors (take processors items) opening (take count (drop processors items));
}

-- so the race checker's answer is one from the base
module _ (b : Base) (checked j : List Event) (size : ℕ) (x : IsOpeningAsBase b checked j size) where
  pub opening_as_base_race_free : RaceFree checked → RaceFreeFromBase b j
  opening_as_base_race_free free = (race_across_cut_free b x.opening j x.number x.even x.none).0 (subst RaceFree x.is free)

  pub opening_as_base_first_race : (i k : ℕ) → IsFirstRace checked i k
      → (size ≤ i) × (size ≤ k) × IsFirstRaceFromBase b j (i - size) (k - size)
  opening_as_base_first_race i k first =
      let opening_as_base_here = subst (λ xs. IsFirstRace xs i k) x.is first in
      let split = race_across_cut_split b x.opening j x.number x.even x.none i k opening_as_base_here.race in
      let long = x.long in
      let from : i ≡ length x.opening + (i - size) = omega (arith, split.2) in
      let to : k ≡ length x.opening + (k - size) = omega (arith, split.3) in (
        omega (arith, split.2),
        omega (arith, split.3),
        (first_race b x.opening j x.number x.even x.none (i - size) (k - size)).0
            (subst₂ (IsFirstRace (x.opening ++ j)) from to opening_as_base_here),
      )
