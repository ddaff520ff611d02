-- Timestamps over sets of places: they are unique, rise with the set, and stay as the journal goes on.
use Rattle.std.proofs.Common.{◌≡◌, ℕ, ◌<◌, ◌≤◌, max, ◌⊎◌, inl, inr, ◌↔◌, List, [], ◌∷◌, ◌++◌, length, Bool, true, false, IsTrue, ◌==◌, ◌&&◌, refl, ap, arith}
use Rattle.std.proofs.lemmas.Bool.{cases_lt, eqb-true, and_parts}
use Rattle.std.proofs.Math.Seq.{take-append_seam}
use Rattle.journal.specs.declared.event.Event.{Event}
use Rattle.journal.specs.declared.event.Kind.{Kind}
use Rattle.journal.specs.DidEvent.{event}
use Rattle.journal.specs.Events.{event_count, event_interval_at, event_closes}
use Rattle.journal.specs.Times.{ClosesAt, IsTimeIn}
use Rattle.journal.proofs.Order.EventPlacesAndCounts.{event_place_shorter, event_count-append, event_count-front, event_count-mono, event_place_numbered}

pub time_of_places_closes_shorter : (j es : List Event) (q i : ℕ) → i < length j → ClosesAt (j ++ es) q i → ClosesAt j q i
time_of_places_closes_shorter j es q i lt c =
    record { kind = c.kind; does = event_place_shorter j es i (event q c.kind) lt c.does; closes = c.closes }

-- an interval behind a journal has a number past it
pub time_of_places_interval_behind : (j es : List Event) (q i : ℕ) → length j ≤ i
    → event_count event_closes j q ≤ event_interval_at (j ++ es) q i
time_of_places_interval_behind j es q i h =
    let up = event_count-mono event_closes (j ++ es) (length j) i q h in
    let all = ap (λ (xs : List Event). event_count event_closes xs q) (take-append_seam j es) in
    omega arith

-- more places, a later time
pub time_of_places_mono : (j : List Event) (some others : ℕ → Type 0) (t u : ℕ → ℕ) (q : ℕ) → ((i : ℕ) → some i → others i)
    → IsTimeIn j some t → IsTimeIn j others u → t q ≤ u q
time_of_places_mono j some others t u q more a b = elim (cases_lt (u q) (t q)) [
  | inr le ↦ le
  | inl lt ↦
      (let within = a.within q in
      let n = event_place_numbered event_closes j q (u q) (omega arith) in
      let closes : ClosesAt j q n.place = record { kind = n.kind; does = n.does; closes = n.counts } in
      let number = n.number in
      let below = (b.covers q n.place closes).0 (more n.place ((a.covers q n.place closes).1 (omega arith))) in
      absurd (omega arith))
]

-- a set of places has one time
pub time_of_places_unique : (j : List Event) (some : ℕ → Type 0) (t u : ℕ → ℕ) (q : ℕ) → IsTimeIn j some t → IsTimeIn j some u
    → t q ≡ u q
time_of_places_unique j some t u q a b =
    let up = time_of_places_mono j some some t u q (λ i h. h) a b in
    let down = time_of_places_mono j some some u t q (λ i h. h) b a in
    omega arith

-- equal sets have equal times
pub time_of_places_same : (j : List Event) (some others : ℕ → Type 0) (t : ℕ → ℕ) → ((i : ℕ) → some i ↔ others i)
    → IsTimeIn j some t → IsTimeIn j others t
time_of_places_same j some others t is a = record {
  covers = λ q i c. ((λ h. (a.covers q i c).0 ((is i).1 h)), (λ lt. (is i).0 ((a.covers q i c).1 lt)));
  within = a.within;
}

-- equal entries are one time
pub time_of_places_equal : (j : List Event) (some : ℕ → Type 0) (t u : ℕ → ℕ) → ((q : ℕ) → t q ≡ u q) → IsTimeIn j some t
    → IsTimeIn j some u
time_of_places_equal j some t u is a = record {
  covers =
      λ q i c. (let e = is q in
      (λ h. (let lt = (a.covers q i c).0 h in omega arith), λ lt. (a.covers q i c).1 (omega arith)));
  within = λ q. (let e = is q in let within = a.within q in omega arith);
}

-- no places, no time
pub time_of_places_none : (j : List Event) (some : ℕ → Type 0) → ((i : ℕ) → some i → ⊥) → IsTimeIn j some (λ _. 0)
time_of_places_none j some none =
    record { covers = λ q i c. (λ h. absurd (none i h), λ lt. absurd (omega arith)); within = λ q. omega arith }

-- the places of both sets: the later of both times
pub time_of_places_joined : (j : List Event) (some others : ℕ → Type 0) (t u : ℕ → ℕ) → IsTimeIn j some t → IsTimeIn j others u
    → IsTimeIn j (λ i. some i ⊎ others i) (λ q. max (t q) (u q))
time_of_places_joined j some others t u a b =
    record {
      covers = λ q i c. (there q i c, back q i c);
      within = λ q. (let x = a.within q in let y = b.within q in omega arith);
    }
  where
    there : (q i : ℕ) → ClosesAt j q i → some i ⊎ others i → event_interval_at j q i < max (t q) (u q)
    there q i c (inl h) = let lt = (a.covers q i c).0 h in omega arith
    there q i c (inr h) = let lt = (b.covers q i c).0 h in omega arith

    back : (q i : ℕ) → ClosesAt j q i → event_interval_at j q i < max (t q) (u q) → some i ⊎ others i
    back q i c lt =
        elim (cases_lt (event_interval_at j q i) (t q))
        [ inl x ↦ inl ((a.covers q i c).1 x) | inr y ↦ inr ((b.covers q i c).1 (omega arith)) ]

-- a set of places keeps its time as the journal goes on
pub time_of_places_longer : (j es : List Event) (some others : ℕ → Type 0) (t : ℕ → ℕ)
    → ((i : ℕ) → i < length j → some i ↔ others i) → ((i : ℕ) → others i → i < length j) → IsTimeIn j some t
    → IsTimeIn (j ++ es) others t
time_of_places_longer j es some others t is old a = record { covers = covers; within = within }
  where
    covers : (q i : ℕ) → ClosesAt (j ++ es) q i → others i ↔ (event_interval_at (j ++ es) q i < t q)
    covers q i c = elim (cases_lt i (length j)) [
      | inl lt ↦
          (let here = a.covers q i (time_of_places_closes_shorter j es q i lt c) in
          let number = event_count-front event_closes j es i q (omega arith) in
          (λ h. (let below = here.0 ((is i lt).1 h) in omega arith), λ below. (is i lt).0 (here.1 (omega arith))))
      | inr le ↦
          (let past = time_of_places_interval_behind j es q i le in
          let top = a.within q in
          (λ h. (let lt = old i h in absurd (omega arith)), λ below. absurd (omega arith)))
    ]

    within : (q : ℕ) → t q ≤ event_count event_closes (j ++ es) q
    within q = let top = a.within q in let sum = event_count-append event_closes j es q in omega arith

-- one event counts one where it is the processor's and of these kinds, and else nothing
pub time_of_places_one_event : (is : Kind → Bool) (e : Event) (q : ℕ)
    → (event_count is (e ∷ []) q ≡ 0) ⊎ ((e.processor ≡ q) × IsTrue (is e.kind) × (event_count is (e ∷ []) q ≡ 1))
time_of_places_one_event is e q = go ((e.processor == q) && is e.kind) refl
  where
    go : (b : Bool) → ((e.processor == q) && is e.kind) ≡ b
        → (event_count is (e ∷ []) q ≡ 0) ⊎ ((e.processor ≡ q) × IsTrue (is e.kind) × (event_count is (e ∷ []) q ≡ 1))
    go true h =
        let both = and_parts (e.processor == q) (is e.kind) h in inr (eqb-true e.processor q both.0, both.1, rw h)
    go false h = inl (rw h)
