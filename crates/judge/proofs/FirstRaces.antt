-- The first race of a history, by its events up to the second place.
use Rattle.std.proofs.Common.{◌≡◌, ℕ, ◌+◌, ◌<◌, inl, inr, ◌↔◌, List, [], ◌∷◌, ◌++◌, Some, drop, length, take, take-append-drop, subst, sym, ap, ◌∙◌, arith}
use Rattle.std.specs.Prelude.{None}
use Rattle.std.proofs.lemmas.Bool.{cases_eq, cases_lt}
use Rattle.std.proofs.lemmas.List.{length-take-le}
use Rattle.journal.specs.declared.event.Event.{Event}
use Rattle.journal.specs.Events.{EventAt}
use Rattle.journal.specs.Races.{IsFirstRace, Race}
use Rattle.journal.proofs.Order.EventPlacesAndCounts.{event_place_at_end, event_place_inside}
use Rattle.journal.proofs.Passes.NextClocks.{next_clocks_front}
use Rattle.judge.specs.NearestRaces.{IsFirstRaceTo}
use Rattle.judge.proofs.NearestRaceSteps.{race_for_nearest_longer, race_for_nearest_shorter}

-- no race ends before this place
abbrev pub IsRaceFreeBelow : List Event → ℕ → Type 0
IsRaceFreeBelow j n = (i k : ℕ) → k < n → ¬ Race j i k

-- what races with an event behind the history's front races with it in the history
first_race_front : {j : List Event} {n : ℕ} {e : Event} → EventAt j n e → (i : ℕ)
    → Race (take n j ++ e ∷ []) i (length (take n j)) ↔ Race j i n
first_race_front {j = j} {n = n} {e = e} at i = (there, back)
  where
    front : List Event
    front = take n j

    long : length front ≡ n
    long = length-take-le n j (let inside = event_place_inside j n e at in omega arith)

    whole : (front ++ e ∷ []) ++ drop (n + 1) j ≡ j
    whole = ap (λ xs. xs ++ drop (n + 1) j) (sym (next_clocks_front j n e at)) ∙ take-append-drop (n + 1) j

    inside : length front < length (front ++ e ∷ [])
    inside = event_place_inside (front ++ e ∷ []) (length front) e (event_place_at_end front e)

    there : Race (front ++ e ∷ []) i (length front) → Race j i n
    there r =
        subst (λ xs. Race xs i n) whole
        (subst (λ m. Race ((front ++ e ∷ []) ++ drop (n + 1) j) i m) long
        (race_for_nearest_longer (front ++ e ∷ []) (drop (n + 1) j) i (length front) r))

    back : Race j i n → Race (front ++ e ∷ []) i (length front)
    back r =
        race_for_nearest_shorter (front ++ e ∷ []) (drop (n + 1) j) i (length front) inside
        (subst (λ m. Race ((front ++ e ∷ []) ++ drop (n + 1) j) i m) (sym long)
        (subst (λ xs. Race xs i n) (sym whole) r))

-- the first event that races with the first that any races with
pub first_race_found : {j : List Event} {n i : ℕ} {e : Event} → EventAt j n e → IsRaceFreeBelow j n
    → IsFirstRaceTo (take n j) e (Some i) → IsFirstRace j i n
first_race_found {j = j} {n = n} {i = i} at free found = record {
  race = (first_race_front at i).0 found.0;
  least_second = λ m k r. elim (cases_lt k n) [ inl lt ↦ absurd (free m k lt r) | inr le ↦ le ];
  least_first = λ m r. found.1 m ((first_race_front at m).1 r);
}

-- one event more with which none races
pub first_race_none : {j : List Event} {n : ℕ} {e : Event} → EventAt j n e → IsRaceFreeBelow j n
    → IsFirstRaceTo (take n j) e None → IsRaceFreeBelow j (n + 1)
first_race_none {j = j} {n = n} at free none m k lt r = elim (cases_eq k n) [
  | inl is ↦ none m ((first_race_front at m).1 (subst (Race j m) is r))
  | inr isnt ↦ free m k (omega arith) r
]
