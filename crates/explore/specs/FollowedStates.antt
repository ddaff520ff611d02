-- What is found after a state, as soon as nothing is free.
use Rattle.std.specs.Prelude.{ℕ, ◌≡◌, ◌+◌, ◌<◌, ◌≤◌, Option, Some, None, List, length, slice_get, slice_index_or}
use Rattle.journal.specs.declared.event.Event.{Event}
use Rattle.journal.specs.declared.event.Kind.{Kind}
use Rattle.journal.specs.DidEvent.{did}
use Rattle.lrc_script.specs.Plan.{Plan}
use Rattle.std.specs.Global.{Vec}
use Rattle.explore.specs.declared.prefixes.script_call.ScriptCall.{ScriptCall}
use Rattle.explore.specs.FreeRun.{IsFoundByFreeRun}
use Rattle.explore.specs.declared.state.found_states.FoundStates.{FoundStates}
use Rattle.explore.specs.declared.state.flat_state.FlatState.{FlatState}
use Rattle.explore.specs.FoundStates.{AreFoundStates, KeepsFoundStates, FoundStateMayDo, found_states}
use Rattle.explore.specs.Machines.{AreLawfulMachineSteps, MachineKnows}

-- of the state at this place of a lawful script p may do this next
pub record MayBeFollowedState (s : Plan) (rows : List (Vec ScriptCall)) (x : FoundStates) (place p : ℕ) (k : Kind) : Type 0 where
  pub lawful : AreLawfulMachineSteps s rows
  pub found : AreFoundStates s x
  pub within : place < length (found_states x)
  pub small : p < 16
  pub next : (m : FlatState) → slice_get (found_states x) place ≡ Some m → FoundStateMayDo s m p k

-- what it comes to by that is found soon
pub record IsFollowedState (s : Plan) (rows : List (Vec ScriptCall)) (x y : FoundStates) (place p : ℕ) (k : Kind) : Type 0 where
  pub keeps : KeepsFoundStates (found_states x) (found_states y)
  pub found : AreFoundStates s y
  pub known : (m : FlatState) (g : List Event) → slice_get (found_states x) place ≡ Some m → MachineKnows s g m
      → IsFoundByFreeRun s rows (found_states y) (did g p k)
  pub few : length (found_states y) ≤ length (found_states x) + 1
  pub telling : y.first.telling ≡ x.first.telling

-- of the state at this place of a lawful script each of these may come next
pub record MayBeFollowedStateByEach (s : Plan) (rows : List (Vec ScriptCall)) (x : FoundStates) (place : ℕ) (nexts : List (Option Kind)) : Type 0 where
  pub lawful : AreLawfulMachineSteps s rows
  pub found : AreFoundStates s x
  pub within : place < length (found_states x)
  pub next : (m : FlatState) → slice_get (found_states x) place ≡ Some m → (p : ℕ) (k : Kind)
      → slice_index_or nexts p None ≡ Some k → FoundStateMayDo s m p k

-- and below this number of processors, what they make of it is found soon
pub record AreFollowedStates (s : Plan) (rows : List (Vec ScriptCall)) (x y : FoundStates) (place : ℕ) (nexts : List (Option Kind)) (n : ℕ) : Type 0 where
  pub keeps : KeepsFoundStates (found_states x) (found_states y)
  pub found : AreFoundStates s y
  pub known : (m : FlatState) (g : List Event) (p : ℕ) (k : Kind) → p < n → slice_get (found_states x) place ≡ Some m
      → MachineKnows s g m → slice_index_or nexts p None ≡ Some k → IsFoundByFreeRun s rows (found_states y) (did g p k)
  pub few : length (found_states y) ≤ length (found_states x) + n
  pub telling : y.first.telling ≡ x.first.telling

-- p is the last of these that may do something
pub record IsLastNext (nexts : List (Option Kind)) (p : ℕ) : Type 0 where
  pub within : p < length nexts
  pub last : (q : ℕ) (k : Kind) → slice_index_or nexts q None ≡ Some k → q ≤ p
