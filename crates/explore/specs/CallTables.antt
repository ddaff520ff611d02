-- What the calls that were made tell: worked out of a script's steps, for each processor and each number of its calls.
use Rattle.std.specs.Prelude.{ℕ, ◌≡◌, ◌+◌, ◌<◌, ◌==◌, Bool, false, if◌then◌else◌, All, Option, Some, None, List, [], ◌∷◌, ◌++◌, count_by, fold, length, slice_get, slice_index, slice_index_or, take}
use Rattle.std.specs.List.{list_any}
use Rattle.std.specs.Global.{Vec}
use Rattle.journal.specs.declared.event.Event.{Event}
use Rattle.journal.specs.declared.event.Kind.{Kind}
use Rattle.journal.specs.declared.event.Kind.TheVariants.{Acquire, Release, Set}
use Rattle.journal.specs.AwaitedNext.{awaited_next}
use Rattle.journal.specs.Events.{event_arrives}
use Rattle.lrc_script.specs.Plan.{Plan}
use Rattle.lrc_script.specs.Lawful.{IsLawful}
use Rattle.explore.specs.declared.state.call_table.CallRow.{CallRow}
use Rattle.explore.specs.declared.state.call_table.CallTable.{CallTable}
use Rattle.explore.specs.declared.state.call_table.CallsMade.{CallsMade}
use Rattle.explore.specs.declared.state.flat_state.FlatState.{FlatState}
use Rattle.explore.specs.declared.prefixes.script_call.ScriptCall.{ScriptCall}
use Rattle.explore.specs.declared.prefixes.script_call.ScriptCall.TheVariants.{Call, Adds}
use Rattle.explore.specs.declared.state.waits.Waiting.{Waiting}
use Rattle.explore.specs.KeptWaiting.{kept_waiting_asked, kept_waiting_told, kept_waiting_without}
use Rattle.explore.specs.WaitCodes.{wait_code_ending}
use Rattle.explore.specs.Machines.{AreLawfulMachineSteps, IsProperMachineStep, MachineKnows, machine_rows}

-- what is awaited after a step
abbrev pub call_awaited_after : Option Kind → ScriptCall → Option Kind
call_awaited_after o (Call k) = awaited_next k
call_awaited_after o (Adds a v) = None

-- whether a step arrives at the barrier
abbrev pub call_arrives : ScriptCall → Bool
call_arrives (Call k) = event_arrives k
call_arrives (Adds a v) = false

-- the locks that are held after a step, if these are before it
abbrev pub call_locks_after : List ℕ → ScriptCall → List ℕ
call_locks_after locks (Call (Acquire l)) = locks ++ l ∷ []
call_locks_after locks (Call (Release l)) = kept_waiting_without locks l
call_locks_after locks _ = locks

-- these numbers and this one, once
abbrev pub call_list_once : List ℕ → ℕ → List ℕ
call_list_once numbers n = if list_any (λ m. m == n) numbers then numbers else numbers ++ n ∷ []

-- the flags that are set after it
abbrev pub call_flags_after : List ℕ → ScriptCall → List ℕ
call_flags_after flags (Call (Set f)) = call_list_once flags f
call_flags_after flags _ = flags

-- these numbers stand at this place
pub record HasCallList (lists : List (Vec ℕ)) (place : ℕ) (numbers : List ℕ) : Type 0 where
  pub list : Vec ℕ
  pub at : slice_get lists place ≡ Some list
  pub are : list.items ≡ numbers

-- the numbers at a place
abbrev pub call_list : List (Vec ℕ) → ℕ → List ℕ
call_list lists place = slice_index_or (machine_rows lists) place []

-- lists keep their places
abbrev pub KeepsCallLists : List (Vec ℕ) → List (Vec ℕ) → Type 0
KeepsCallLists old new = (i : ℕ) (v : Vec ℕ) → slice_get old i ≡ Some v → slice_get new i ≡ Some v

-- lists keep their places, and these numbers stand at this one
pub record IsCallListPut (old new : List (Vec ℕ)) (numbers : List ℕ) (place : ℕ) : Type 0 where
  pub keeps : KeepsCallLists old new
  pub put : HasCallList new place numbers

-- this is what these steps tell
pub record TellsCallsMade (lists : List (Vec ℕ)) (steps : List ScriptCall) (x : CallsMade) : Type 0 where
  pub wait : wait_code_ending x.wait ≡ fold call_awaited_after None steps
  pub arrivals : x.arrivals ≡ count_by call_arrives steps
  pub locks : HasCallList lists x.locks (fold call_locks_after [] steps)
  pub flags : HasCallList lists x.flags (fold call_flags_after [] steps)

-- of a row of steps, this is what each number of them tells
pub record TellsCallRow (row : List ScriptCall) (x : CallRow) : Type 0 where
  pub long : length x.made.items ≡ length row + 1
  pub each : (n : ℕ) (made : CallsMade) → slice_get x.made.items n ≡ Some made → TellsCallsMade x.lists.items (take n row) made

-- the same of each processor
pub record TellsCallTable (rows : List (Vec ScriptCall)) (t : CallTable) : Type 0 where
  pub long : length t.rows.items ≡ length rows
  pub each : (p : ℕ) (row : Vec ScriptCall) (x : CallRow) → slice_get rows p ≡ Some row → slice_get t.rows.items p ≡ Some x
      → TellsCallRow row.items x

-- the table is of the script's steps
pub record IsCallTableOf (s : Plan) (t : CallTable) : Type 0 where
  pub rows : List (Vec ScriptCall)
  pub lawful : AreLawfulMachineSteps s rows
  pub tells : TellsCallTable rows t

-- the step is one of a lawful script
abbrev pub IsLawfulCallStep : ScriptCall → Type 0
IsLawfulCallStep step = (s : Plan) × IsLawful s × IsProperMachineStep s step

-- the numbers at this place are below 32
pub record IsCallListSmall (lists : List (Vec ℕ)) (place : ℕ) : Type 0 where
  pub within : place < length lists
  pub small : All (λ n. n < 32) (call_list lists place)

-- all locks and flags of the row are
pub record IsCallRowSmall (x : CallRow) : Type 0 where
  pub locks : (n : ℕ) (made : CallsMade) → slice_get x.made.items n ≡ Some made → IsCallListSmall x.lists.items made.locks
  pub flags : (n : ℕ) (made : CallsMade) → slice_get x.made.items n ≡ Some made → IsCallListSmall x.lists.items made.flags

-- of each processor the table has what so many calls tell
abbrev pub HasCallsMade : CallTable → List ℕ → Type 0
HasCallsMade t done = (p : ℕ) (x : CallRow) → slice_get t.rows.items p ≡ Some x → slice_index done p < length x.made.items

-- the machine has done some events of the script of which the table is
pub record IsStateOfCalls (t : CallTable) (m : FlatState) : Type 0 where
  pub plan : Plan
  pub table : IsCallTableOf plan t
  pub events : List Event
  pub knows : MachineKnows plan events m

-- what so many calls tell; nothing, if that isn't there
abbrev pub calls_made : CallRow → ℕ → CallsMade
calls_made x n = slice_index_or x.made.items n (record { wait = None; arrivals = 0; locks = 0; flags = 0 })

-- this, and what n calls of p tell
abbrev pub call_waiting_after : Waiting → ℕ → CallRow → ℕ → Waiting
call_waiting_after w p x n =
    kept_waiting_told w p (calls_made x n).wait (calls_made x n).arrivals (call_list x.lists.items (calls_made x n).locks) (call_list x.lists.items (calls_made x n).flags)

-- and what these calls of p and of those behind it tell
abbrev pub call_waiting_from : List CallRow → ℕ → List ℕ → Waiting → Waiting
call_waiting_from [] p done w = w
call_waiting_from (x ∷ xs) p done w = call_waiting_from xs (p + 1) done (call_waiting_after w p x (slice_index done p))

-- what is kept of who waits, if so many calls were made, and these wait for a lock
abbrev pub call_waiting : CallTable → List ℕ → Vec ℕ → Waiting
call_waiting t done asked = call_waiting_from t.rows.items 0 done (kept_waiting_asked asked)
