-- The chairs of a table, dealt to its seats. A seat knows the chairs at its places; only it can change them.
use Rattle.std.specs.Prelude.{◌≡◌, ◌≢◌, ℕ, ◌+◌, List, [], ◌∷◌, length, slice_get, Option, Some, None, Bool, true, false}
use mathlib.Core.Option as maybe
use Rattle.atomic_table.specs.Table.{State}
use Rattle.turn.specs.declared.chair.ChairGuest.{ChairGuest}
use Rattle.turn.specs.declared.chair.ChairRun.{ChairRun}

module _ {C : Type 0} where
  abbrev pub chair_run : Bool → ℕ → C → List C → ChairRun C
  chair_run l p c cs = record { live = l; place = p; lead = c; others = cs; guest = None }

  -- one chair at one place
  abbrev pub one_chair_run : ℕ → C → ChairRun C
  one_chair_run p c = chair_run true p c []

  -- the chairs of a run, the first at its place
  abbrev pub chairs_of_run : ChairRun C → List C
  chairs_of_run h = h.lead ∷ h.others

  abbrev pub chair_run_after_first : ℕ → C → List C → ChairRun C
  chair_run_after_first p c [] = chair_run false p c []
  chair_run_after_first p c (x ∷ xs) = chair_run true p x xs

  -- the run that is left when its first chair goes to a new seat: none if there is no other chair
  abbrev pub rest_of_chair_run : ChairRun C → ChairRun C
  rest_of_chair_run h = chair_run_after_first (h.place + 1) h.lead h.others

  abbrev pub chair_run_of_first : ChairRun C → ChairRun C
  chair_run_of_first h = one_chair_run h.place h.lead

  -- the run h that takes in g, whose one chair has the place before
  abbrev pub both_chair_runs : ChairRun C → ChairRun C → ChairRun C
  both_chair_runs h g = chair_run true g.place g.lead (chairs_of_run h)

  abbrev pub chair_run_guest : ℕ → C → ChairGuest C
  chair_run_guest p c = record { place = p; chair = c }

  -- the run h that takes the first chair of g in as its guest
  abbrev pub chair_run_hosting : ChairRun C → ChairRun C → ChairRun C
  chair_run_hosting h g = record h { guest = Some (chair_run_guest g.place g.lead) }

  -- a guest's own run; c stands for none
  abbrev pub chair_run_of_guest : C → Option (ChairGuest C) → ChairRun C
  chair_run_of_guest c None = chair_run false 0 c []
  chair_run_of_guest c (Some g) = one_chair_run g.place g.chair

  -- that of the run's guest
  abbrev pub run_of_chair_guest : ChairRun C → ChairRun C
  run_of_chair_guest h = chair_run_of_guest h.lead h.guest

  -- a run's chairs stand at its places, and these are the places of the seat id
  abbrev pub KnowsChairRun : List C → (ℕ → ℕ) → ℕ → ChairRun C → Type 0
  KnowsChairRun chairs owner id h = (j : ℕ) (c : C) → slice_get (chairs_of_run h) j ≡ Some c
      → (slice_get chairs (h.place + j) ≡ Some c) × (owner (h.place + j) ≡ id)

  -- and its guest stands at its own, which is another one and the same seat's
  abbrev pub KnowsGuestOfChairRun : List C → (ℕ → ℕ) → ℕ → ChairRun C → Type 0
  KnowsGuestOfChairRun chairs owner id h = (g : ChairGuest C) → h.guest ≡ Some g
      → (slice_get chairs g.place ≡ Some g.chair) × (owner g.place ≡ id) × (g.place ≢ h.place)

-- there are n chairs, each place is one seat's, each live seat knows its chairs and its guest, and `core` holds of the
-- words, the slots and the chairs
pub record DealtChairRuns {S C : Type 0} (n : ℕ) (core : List ℕ → List (maybe.Option S) → List C → Type 0)
    (s : State S (ChairRun C)) : Type 0 where
  pub chairs : List C
  pub owner : ℕ → ℕ
  pub all : length chairs ≡ n
  pub known : (id : ℕ) (h : ChairRun C) → slice_get s.views id ≡ Some h → h.live ≡ true → KnowsChairRun chairs owner id h
  pub guests : (id : ℕ) (h : ChairRun C) → slice_get s.views id ≡ Some h → h.live ≡ true → KnowsGuestOfChairRun chairs owner id h
  pub keeps : core s.words s.homes chairs
