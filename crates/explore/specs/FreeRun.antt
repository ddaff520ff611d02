-- Free events, one after another.
use Rattle.std.specs.Prelude.{◌≡◌, ◌<◌, Bool, List, ◌++◌, length, map}
use Rattle.std.specs.Global.{Vec}
use Rattle.base.specs.InOrderOnce.{Has}
use Rattle.journal.specs.declared.event.Event.{Event}
use Rattle.journal.specs.DidEvent.{did}
use Rattle.lrc_script.specs.Plan.{Plan}
use Rattle.explore.specs.declared.prefixes.script_call.ScriptCall.{ScriptCall}
use Rattle.explore.specs.declared.state.flat_state.FlatState.{FlatState}
use Rattle.explore.specs.declared.state.wait_code.ProcessorNumber.{ProcessorNumber}
use Rattle.explore.specs.FreeChoice.{IsFreeForChoice, IsFreeForChoiceByWords}
use Rattle.explore.specs.Prefixes.FlatBeginnings.{IsFlatBeginning}
use Rattle.explore.specs.FoundStates.{IsFoundState}
use Rattle.explore.specs.Machines.{AreLawfulMachineSteps, MachineKnows}

-- each of these events is free
abbrev pub AreFreeInRun : List (Vec ScriptCall) → List Event → Type 0
AreFreeInRun rows more = (e : Event) → Has more e → IsFreeForChoice rows e.kind

-- the machine m has become n by these events, which are free
pub record IsFreeRun (rows : List (Vec ScriptCall)) (m n : FlatState) (more : List Event) : Type 0 where
  pub free : AreFreeInRun rows more
  pub telling : n.telling ≡ m.telling
  pub knows : (s : Plan) (g : List Event) → AreLawfulMachineSteps s rows → MachineKnows s g m → MachineKnows s (g ++ more) n

-- and their makers were put behind the old ones
pub record IsFreeRunNoted (rows : List (Vec ScriptCall)) (m n : FlatState) (old new : List ProcessorNumber) : Type 0 where
  pub more : List Event
  pub run : IsFreeRun rows m n more
  pub makers : map (λ (p : ProcessorNumber). p.0) new ≡ map (λ (p : ProcessorNumber). p.0) old ++ map (λ (e : Event). e.processor) more

-- some processor may do this next, whatever events come to m, and it accesses no word but one of those that are said to be guarded
pub record IsNextInFreeRun (rows : List (Vec ScriptCall)) (guarded : List Bool) (m : FlatState) (e : Event) : Type 0 where
  pub processor : e.processor < length rows
  pub next : (s : Plan) (g : List Event) → AreLawfulMachineSteps s rows → MachineKnows s g m → IsFlatBeginning s (did g e.processor e.kind)
  pub free : IsFreeForChoiceByWords guarded e.kind

-- free events lead from g to one of these states
pub record IsFoundByFreeRun (s : Plan) (rows : List (Vec ScriptCall)) (states : List FlatState) (g : List Event) : Type 0 where
  pub more : List Event
  pub free : AreFreeInRun rows more
  pub found : IsFoundState s states (g ++ more)
