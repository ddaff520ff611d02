-- Locks by which no run gets stuck: of those that a processor holds together, the one that it asked for later has a lower
-- rank, and it holds none while it waits for others.
use Rattle.std.specs.Prelude.{ℕ, ◌≡◌, ◌<◌, Bool, true, false, IsTrue, List, Some, length, slice_get}
use Rattle.std.specs.Global.{Vec}
use Rattle.journal.specs.declared.event.Event.{Event}
use Rattle.journal.specs.declared.event.Kind.TheVariants.{Acquire, Depart, Await}
use Rattle.lrc_script.specs.Plan.{Plan}
use Rattle.explore.specs.declared.prefixes.script_call.ScriptCall.{ScriptCall}
use Rattle.explore.specs.declared.prefixes.script_call.ScriptCall.TheVariants.{Call}
use Rattle.explore.specs.Machines.{AreLawfulMachineSteps}
use Rattle.explore.specs.Prefixes.FlatBeginnings.{IsFlatBeginningWhole, IsFlatBeginningHanging}
use Rattle.explore.specs.TextGuards.{text_guard_held_at}

-- whether the step ends a wait at the barrier or for a flag
abbrev pub ends_unlocked_wait : ScriptCall → Bool
ends_unlocked_wait (Call Depart) = true
ends_unlocked_wait (Call (Await f)) = true
ends_unlocked_wait _ = false

-- who acquires a lock holds only locks of higher ranks; who waits for others holds none; and at the end none is held
pub record IsRowLockRanked (rank : ℕ → ℕ) (row : List ScriptCall) : Type 0 where
  pub falls : (i l m : ℕ) → slice_get row i ≡ Some (Call (Acquire l)) → IsTrue (text_guard_held_at row i m) → rank l < rank m
  pub unlocked : (i m : ℕ) (step : ScriptCall) → slice_get row i ≡ Some step → IsTrue (ends_unlocked_wait step)
      → ¬ IsTrue (text_guard_held_at row i m)
  pub free : (m : ℕ) → ¬ IsTrue (text_guard_held_at row (length row) m)

-- of each row that is so
abbrev pub AreRowsLockRanked : (ℕ → ℕ) → List (Vec ScriptCall) → Type 0
AreRowsLockRanked rank rows = (p : ℕ) (row : Vec ScriptCall) → slice_get rows p ≡ Some row → IsRowLockRanked rank row.items

-- then no run gets stuck, if one comes to its end
abbrev pub RankedLocksLaw : Type 0
RankedLocksLaw = (s : Plan) (rows : List (Vec ScriptCall)) (rank : ℕ → ℕ) (w : List Event) → AreLawfulMachineSteps s rows
    → AreRowsLockRanked rank rows → IsFlatBeginningWhole s w → (g : List Event) → ¬ IsFlatBeginningHanging s g
