-- What the lock's rule means of each state of its table.
use Rattle.std.specs.Prelude.{◌≡◌, ◌↔◌, ℕ, ◌<◌, ◌≤◌, List, [], ◌∷◌, map, slice_index, slice_get, Option, Some}
use mathlib.Core.Option as maybe
use mathlib.Core.Option.{some, none}
use Rattle.atomic_table.specs.Table.{State}
use Rattle.turn.specs.declared.chair.ChairStage.TheVariants.{Inside}
use Rattle.turn.specs.declared.chair.ChairState.{ChairState}
use Rattle.turn.specs.declared.chair.ChairRun.{ChairRun}
use Rattle.turn.specs.ChairRuns.{DealtChairRuns}
use Rattle.turn.specs.Tickets.{ticket_view_of, HasTicket, TicketTurns}

module _ {B V : Type 0} where
  -- the chair at this place is inside, with the number m and the book as it took it
  abbrev pub IsInsideOnTurnByLaw : List (ChairState B V) → ℕ → ℕ → B → Type 0
  IsInsideOnTurnByLaw chairs k m b = (c : ChairState B V) × (slice_get chairs k ≡ Some c) × (c.stage ≡ Inside m b)

  -- The chairs take turns. `at m` is the word at which the chair with the number m looks, word 0 the next number
  pub record HaveTurnsByLaw (fact : B → List V → Type 0) (at : ℕ → ℕ) (words : List ℕ)
      (homes : List (maybe.Option (Option B))) (chairs : List (ChairState B V)) : Type 0 where
    -- the number of leaves
    pub serving : ℕ
    -- the numbers drawn and not left are those from the number of leaves up to the next one, each of one chair
    pub drawn : (m : ℕ) → ((k : ℕ) × HasTicket chairs k m) ↔ ((serving ≤ m) × (m < slice_index words 0))
    pub apart : (k j m : ℕ) → HasTicket chairs k m → HasTicket chairs j m → k ≡ j
    -- the chair with the number of leaves finds it where it looks
    pub shown : slice_index words (at serving) ≡ serving
    -- one chair at most is inside
    pub alone : (k j m n : ℕ) (a b : B) → IsInsideOnTurnByLaw chairs k m a → IsInsideOnTurnByLaw chairs j n b → k ≡ j
    -- it has the least number that was drawn and not left
    pub least : (k j m n : ℕ) (b : B) → IsInsideOnTurnByLaw chairs k m b → HasTicket chairs j n → m ≤ n
    -- the slot is empty only while a chair is inside
    pub empty : homes ≡ none ∷ [] → (k m : ℕ) × (b : B) × IsInsideOnTurnByLaw chairs k m b
    -- the lock invariant holds of the book in the slot
    pub kept : (b : B) → homes ≡ some (Some b) ∷ [] → fact b (map ticket_view_of chairs)

-- in each state that meets the rule of a lock with n chairs, of which each may enter `limit` times,
-- the chairs take turns
abbrev pub TurnsLaw : {B V : Type 0} → (B → List V → Type 0) → (List ℕ → ℕ → Type 0) → (ℕ → ℕ) → ℕ → ℕ
    → Type 0
TurnsLaw {B = B} {V = V} fact shows at n limit =
    (s : State (Option B) (ChairRun (ChairState B V))) (d : DealtChairRuns n (TicketTurns fact shows limit) s)
    → HaveTurnsByLaw fact at s.words s.homes d.chairs
