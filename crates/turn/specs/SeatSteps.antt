-- What each step of the lock tells the seat that makes it.
use Rattle.std.specs.Prelude.{◌≡◌, ℕ, zero, suc, ◌+◌, ◌^◌, ◌<◌, List, [], ◌∷◌, replicate, ◌==◌, MatchBool, true, false, Option, Some}
use Rattle.atomic_table.specs.Table.{Me}
use Rattle.turn.specs.declared.chair.ChairStage.{ChairStage}
use Rattle.turn.specs.declared.chair.ChairStage.TheVariants.{Outside, Waiting, Inside}
use Rattle.turn.specs.declared.chair.ChairState.{ChairState}
use Rattle.turn.specs.declared.chair.ChairGuest.{ChairGuest}
use Rattle.turn.specs.declared.chair.ChairRun.{ChairRun}
use Rattle.turn.specs.Stages.{stage_carries}
use Rattle.turn.specs.Chairs.{ChairStands}
use Rattle.turn.specs.ChairRuns.{chair_run, chair_run_hosting, one_chair_run}
use Rattle.turn.specs.Tickets.{ticket_chair_state}

module _ {B V : Type 0} where
  -- a chair that never entered
  abbrev pub fresh_stepping_seat : V → ChairState B V
  fresh_stepping_seat v = ticket_chair_state Outside 0 v

  -- the run with n fresh chairs from the place p on
  abbrev pub fresh_stepping_seat_run : V → ℕ → ℕ → ChairRun (ChairState B V)
  fresh_stepping_seat_run v p zero = chair_run false p (fresh_stepping_seat v) []
  fresh_stepping_seat_run v p (suc n) = chair_run true p (fresh_stepping_seat v) (replicate n (fresh_stepping_seat v))

  -- a seat with one chair
  abbrev pub stepping_seat_with : ℕ → ChairStage B → ℕ → V → Me (Option B) (ChairRun (ChairState B V))
  stepping_seat_with p g e v = (one_chair_run p (ticket_chair_state g e v), stage_carries g)

  -- the seat with its chair at another stage
  abbrev pub stepping_seat_at_stage : ChairStage B → Me (Option B) (ChairRun (ChairState B V))
      → Me (Option B) (ChairRun (ChairState B V))
  stepping_seat_at_stage g me = stepping_seat_with me.0.place g me.0.lead.entries me.0.lead.view

  -- the seat has one chair, at this stage
  abbrev pub IsSteppingSeatAtStage : ChairStage B → Me (Option B) (ChairRun (ChairState B V)) → Type 0
  IsSteppingSeatAtStage g me = me ≡ stepping_seat_at_stage g me

  -- a draw: the chair waits with the number found, and has entered once more
  abbrev pub SeatDrawStep : Me (Option B) (ChairRun (ChairState B V)) → ℕ → Me (Option B) (ChairRun (ChairState B V)) → Type 0
  SeatDrawStep me found after = (after ≡ stepping_seat_with me.0.place (Waiting found) (me.0.lead.entries + 1) me.0.lead.view)
      × (found + 1 < 2 ^ 64)

  -- the chair that waited with the number m is inside, and its seat has the slot with the book, of which the fact holds
  abbrev pub SeatStepsIn : (B → List V → Type 0) → ℕ → Me (Option B) (ChairRun (ChairState B V))
      → Me (Option B) (ChairRun (ChairState B V)) → Type 0
  SeatStepsIn fact m me after = (book : B) × ChairStands fact book me.0.place me.0.lead.view
      × (after ≡ ((stepping_seat_at_stage (Inside m book) me).0, (0, Some book) ∷ []))

  -- a look: the number found is the chair's own, and it steps in, or nothing changes
  abbrev pub SeatLookStep : (B → List V → Type 0) → Me (Option B) (ChairRun (ChairState B V)) → ℕ
      → Me (Option B) (ChairRun (ChairState B V)) → Type 0
  SeatLookStep fact me found after = (m : ℕ) → me.0.lead.stage ≡ Waiting m
      → MatchBool (found == m) (SeatStepsIn fact m me after) (after ≡ me)

  -- a seat that has another's first chair as its guest
  abbrev pub stepping_seat_hosting : Me (Option B) (ChairRun (ChairState B V)) → Me (Option B) (ChairRun (ChairState B V))
      → Me (Option B) (ChairRun (ChairState B V))
  stepping_seat_hosting me other = (chair_run_hosting me.0 other.0, me.1)

  -- a talk with the guest: the seat's own chair, which is outside, has a new view by both places and views
  abbrev pub SeatTalkStep : (ℕ → V → ℕ → V → V → Type 0) → Me (Option B) (ChairRun (ChairState B V))
      → Me (Option B) (ChairRun (ChairState B V)) → Type 0
  SeatTalkStep then me after = (g : ChairGuest (ChairState B V)) → me.0.guest ≡ Some g
      → (w : V) × then me.0.place me.0.lead.view g.place g.chair.view w
      × (after ≡ (record me.0 { lead = ticket_chair_state Outside me.0.lead.entries w }, me.1))

  -- a leave: the chair, which was inside with the book found, is outside with a new view, and the slot is given back
  -- with the book
  abbrev pub SeatLeaveStep : (B → B → ℕ → V → V → Type 0) → Me (Option B) (ChairRun (ChairState B V))
      → Me (Option B) (ChairRun (ChairState B V)) → Type 0
  SeatLeaveStep then me after =
      (after ≡ stepping_seat_with me.0.place Outside me.0.lead.entries after.0.lead.view)
      × ((m : ℕ) (found book : B) → me.0.lead.stage ≡ Inside m found → me.1 ≡ (0, Some book) ∷ []
      → then found book me.0.place me.0.lead.view after.0.lead.view)
