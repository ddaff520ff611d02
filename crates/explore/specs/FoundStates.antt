-- What a search keeps of the states that it has found.
use Rattle.std.specs.Prelude.{ℕ, ◌≡◌, ◌+◌, ◌<◌, ◌≤◌, ◌⊎◌, Some, List, [], ◌∷◌, ◌++◌, length, map, slice_get}
use Rattle.journal.specs.declared.event.Event.{Event}
use Rattle.journal.specs.declared.event.Kind.{Kind}
use Rattle.journal.specs.DidEvent.{did}
use Rattle.lrc_script.specs.Plan.{Plan}
use Rattle.explore.specs.Prefixes.FlatBeginnings.{IsFlatBeginning}
use Rattle.explore.specs.declared.state.found_states.FoundStates.{FoundStates}
use Rattle.explore.specs.declared.state.flat_state.FlatState.{FlatState}
use Rattle.explore.specs.declared.state.kept_state.KeptState.{KeptState}
use Rattle.explore.specs.declared.state.wait_code.ProcessorNumber.{ProcessorNumber}
use Rattle.std.specs.Global.{Vec}
use Rattle.explore.specs.declared.prefixes.script_call.ScriptCall.{ScriptCall}
use Rattle.explore.specs.CallTables.{IsCallTableOf}
use Rattle.explore.specs.KeptStates.{AreFewStateParts, AreStatePartsOnce, AreTrimmedMemories, IsKeptStateWithin, opened_state}
use Rattle.explore.specs.Origins.{AreOriginsInOrder, StateOrigin, most_state_origins, state_origins}
use Rattle.explore.specs.Machines.{AreLawfulMachineSteps, MachinesInSameState, MachineKnows}

-- the states, in the order in which they were found
abbrev pub found_states : FoundStates → List FlatState
found_states x = map (opened_state x.parts x.first) x.states.keys

-- each is kept by parts that are there, each once, no more of them than states, without zeros at their end, and where they come
-- from is in order
pub record AreFoundStatesKept (x : FoundStates) : Type 0 where
  pub calls : (s : Plan) × IsCallTableOf s x.parts.calls
  pub within : (place : ℕ) (k : KeptState) → slice_get x.states.keys place ≡ Some k → IsKeptStateWithin x.parts k
  pub once : AreStatePartsOnce x.parts
  pub few : AreFewStateParts x.parts (length x.states.keys)
  pub trimmed : AreTrimmedMemories x.parts (length x.first.memory.items)
  pub in_order : AreOriginsInOrder x.origins

-- so many more states have places of 32 bits
abbrev pub HasRoomForStates : FoundStates → ℕ → Type 0
HasRoomForStates x more = length (found_states x) + more ≤ most_state_origins

-- one of these states is what the events come to
pub record IsFoundState (s : Plan) (states : List FlatState) (g : List Event) : Type 0 where
  pub place : ℕ
  pub state : FlatState
  pub at : slice_get states place ≡ Some state
  pub knows : MachineKnows s g state

-- behind g these processors make the events of a run that comes to m, in order
pub record AreMakersBehind (s : Plan) (g : List Event) (m : FlatState) (makers : List ProcessorNumber) : Type 0 where
  pub events : List Event
  pub knows : MachineKnows s (g ++ events) m
  pub are : map (λ (n : ProcessorNumber). n.0) makers ≡ map (λ (e : Event). e.processor) events

-- the state m comes from an earlier one by some processors' events
pub record IsFoundStateOrigin (s : Plan) (states : List FlatState) (place : ℕ) (m : FlatState) (o : StateOrigin) : Type 0 where
  pub earlier : o.from < place
  pub after : (f : FlatState) (g : List Event) → slice_get states o.from ≡ Some f → MachineKnows s g f
      → AreMakersBehind s g m o.makers

-- these are states of the script that keep what is told, first the one that has done nothing, with where each other one comes from
pub record AreFoundStates (s : Plan) (x : FoundStates) : Type 0 where
  pub kept : AreFoundStatesKept x
  pub calls : IsCallTableOf s x.parts.calls
  pub long : length (found_states x) ≡ length (state_origins x.origins) + 1
  pub known : (place : ℕ) (m : FlatState) → slice_get (found_states x) place ≡ Some m → (g : List Event) × MachineKnows s g m
  pub come : (place : ℕ) (m : FlatState) (o : StateOrigin) → slice_get (found_states x) (place + 1) ≡ Some m
      → slice_get (state_origins x.origins) place ≡ Some o → IsFoundStateOrigin s (found_states x) (place + 1) m o
  pub begins : MachineKnows s [] x.first
  pub first : (m : FlatState) → slice_get (found_states x) 0 ≡ Some m → MachineKnows s [] m
  pub told : (place : ℕ) (m : FlatState) → slice_get (found_states x) place ≡ Some m → m.telling ≡ x.first.telling

-- the state was there already
pub record FoundStateWasThere (x y : FoundStates) (m : FlatState) : Type 0 where
  pub first : y.first ≡ x.first
  pub calls : y.parts.calls ≡ x.parts.calls
  pub states : found_states y ≡ found_states x
  pub origins : state_origins y.origins ≡ state_origins x.origins
  pub place : ℕ
  pub state : FlatState
  pub at : slice_get (found_states x) place ≡ Some state
  pub like : MachinesInSameState m state

-- it was put at the end
pub record FoundStateWasPushed (x y : FoundStates) (m : FlatState) (o : StateOrigin) : Type 0 where
  pub first : y.first ≡ x.first
  pub calls : y.parts.calls ≡ x.parts.calls
  pub states : found_states y ≡ found_states x ++ m ∷ []
  pub origins : state_origins y.origins ≡ state_origins x.origins ++ o ∷ []

-- one in the same state was
pub record FoundStateWasKept (x y : FoundStates) (m : FlatState) (o : StateOrigin) : Type 0 where
  pub state : FlatState
  pub pushed : FoundStateWasPushed x y state o
  pub like : MachinesInSameState m state

-- the state was added, if it is a new one
pub record FoundStateAdded (x y : FoundStates) (m : FlatState) (o : StateOrigin) : Type 0 where
  pub kept : AreFoundStatesKept y
  pub added : FoundStateWasThere x y m ⊎ FoundStateWasKept x y m o

-- the machine n is in the state at this place
abbrev pub IsFoundStateAt : FoundStates → ℕ → FlatState → Type 0
IsFoundStateAt x place n = (m : FlatState) → slice_get (found_states x) place ≡ Some m → MachinesInSameState m n

-- states keep their places
abbrev pub KeepsFoundStates : List FlatState → List FlatState → Type 0
KeepsFoundStates old new = (place : ℕ) (m : FlatState) → slice_get old place ≡ Some m → slice_get new place ≡ Some m

-- whatever events come to m, p may do this next
abbrev pub FoundStateMayDo : Plan → FlatState → ℕ → Kind → Type 0
FoundStateMayDo s m p k = (g : List Event) → MachineKnows s g m → IsFlatBeginning s (did g p k)

-- these processors make the events of a run that comes to m, in order
abbrev pub AreFoundStateMakers : Plan → FlatState → List ProcessorNumber → Type 0
AreFoundStateMakers s m makers = AreMakersBehind s [] m makers

-- these processors make these events of a lawful script from m on, which has done none; the script's steps are these rows
pub record AreEventsOfMakers (s : Plan) (rows : List (Vec ScriptCall)) (m : FlatState) (es : List Event) (makers : List ProcessorNumber) : Type 0 where
  pub lawful : AreLawfulMachineSteps s rows
  pub first : MachineKnows s [] m
  pub beginning : IsFlatBeginning s es
  pub are : map (λ (n : ProcessorNumber). n.0) makers ≡ map (λ (e : Event). e.processor) es
