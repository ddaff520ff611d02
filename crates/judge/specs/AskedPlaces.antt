-- Places of which it may still be asked what a processor had stored in a page before them.
use Rattle.std.specs.Prelude.{ℕ, ◌≡◌, ◌≢◌, ◌⊎◌, ◌+◌, ◌<◌, ◌≤◌, ◌&&◌, ◌||◌, cond, nat_le, Bool, List, [], ◌∷◌, length}
use Rattle.std.specs.List.{list_any}
use Rattle.base.specs.InOrderOnce.{Has}
use Rattle.journal.specs.declared.event.Event.{Event}
use Rattle.journal.specs.Sizes.{Sizes}
use Rattle.judge.specs.declared.asked_places.AskedPlaces.{AskedPlaces}
use Rattle.judge.specs.declared.stored_steps.StoredStep.{StoredStep}
use Rattle.judge.specs.Cuts.{IsCutOf}
use Rattle.judge.specs.DueCounts.{IsDueFetchedCut}

-- one of them is from `from` on and at most `to`
abbrev pub is_asked_between : AskedPlaces → ℕ → ℕ → Bool
is_asked_between asked from to = nat_le asked.all_from to || list_any (λ v. nat_le from v && nat_le v to) asked.fetched.items

-- of these steps, each that is the first one from some of them on; the places of those before these steps are below `from`
abbrev pub asked_steps_from : AskedPlaces → ℕ → List StoredStep → List StoredStep
asked_steps_from asked from [] = []
asked_steps_from asked from (x ∷ steps) =
    cond (is_asked_between asked from x.place) (x ∷ asked_steps_from asked (x.place + 1) steps) (asked_steps_from asked (x.place + 1) steps)

-- the entry of q in the cut of another one of the first `count` processors
abbrev pub IsAskedEntry : List Event → ℕ → ℕ → ℕ → Type 0
IsAskedEntry j q count v = (p : ℕ) × (p < count) × (q ≢ p) × ((t : ℕ → ℕ) × IsCutOf j p t × (v ≡ t q))

-- the entry of q in the cut that another one of the first `count` processors had at its last fetch of page n
abbrev pub IsAskedFetch : Sizes → List Event → ℕ → ℕ → ℕ → ℕ → Type 0
IsAskedFetch s j n q count v = (p : ℕ) × (p < count) × (q ≢ p) × ((t : ℕ → ℕ) × IsDueFetchedCut s j p n t × (v ≡ t q))

-- they are all from the least of these entries on, or from the end where there is none, and those of the last fetches
pub record AreAskedPlaces (s : Sizes) (j : List Event) (n q count : ℕ) (asked : AskedPlaces) : Type 0 where
  pub known : (p : ℕ) → p < count → q ≢ p → (t : ℕ → ℕ) × IsCutOf j p t × (asked.all_from ≤ t q)
  pub least : (asked.all_from ≡ length j) ⊎ IsAskedEntry j q count asked.all_from
  pub fetched : (p : ℕ) → p < count → q ≢ p → (t : ℕ → ℕ) × IsDueFetchedCut s j p n t × Has asked.fetched.items (t q)
  pub only : (v : ℕ) → Has asked.fetched.items v → IsAskedFetch s j n q count v
