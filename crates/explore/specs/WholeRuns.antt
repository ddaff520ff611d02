-- One run of a script, as far as it came.
use Rattle.std.specs.Prelude.{◌≡◌, ◌<◌, List, length, map}
use Rattle.std.specs.Global.{Vec}
use Rattle.journal.specs.declared.event.Event.{Event}
use Rattle.journal.specs.DidEvent.{did}
use Rattle.lrc_script.specs.Plan.{Plan}
use Rattle.explore.specs.declared.prefixes.script_call.ScriptCall.{ScriptCall}
use Rattle.explore.specs.declared.state.flat_state.FlatState.{FlatState}
use Rattle.explore.specs.declared.state.wait_code.ProcessorNumber.{ProcessorNumber}
use Rattle.explore.specs.declared.outcomes.showing.ShownRun.{ShownRun}
use Rattle.explore.specs.declared.outcomes.telling.Detail.{Detail}
use Rattle.explore.specs.declared.search.whole_run.NextTurn.{NextTurn}
use Rattle.explore.specs.declared.search.whole_run.RunSoFar.{RunSoFar}
use Rattle.explore.specs.Explored.{explored_outcome}
use Rattle.explore.specs.OutcomeTelling.{AreOutcomeTellingReplies, outcome_telling_of_script}
use Rattle.explore.specs.Machines.{AreLawfulMachineSteps, MachineKnows}
use Rattle.explore.specs.Prefixes.FlatBeginnings.{IsFlatBeginning}

-- its events are these: its machine has done them, and its makers make them
pub record IsRunThrough (s : Plan) (g : List Event) (run : RunSoFar) : Type 0 where
  pub knows : MachineKnows s g run.state
  pub events : run.events.items ≡ g
  pub makers : map (λ (n : ProcessorNumber). n.0) run.makers.items ≡ map (λ (e : Event). e.processor) g

-- it has some events
abbrev pub HasRun : Plan → RunSoFar → Type 0
HasRun s run = (g : List Event) × IsRunThrough s g run

-- some processor may make this event next, whatever events come to m
pub record IsNextTurn (rows : List (Vec ScriptCall)) (m : FlatState) (turn : NextTurn) : Type 0 where
  pub processor : turn.event.processor < length rows
  pub next : (s : Plan) (g : List Event) → AreLawfulMachineSteps s rows → MachineKnows s g m
      → IsFlatBeginning s (did g turn.event.processor turn.event.kind)

-- what is told of a run: its events, and what they show by this detail
pub record IsShownRunOf (s : Plan) (d : Detail) (g : List Event) (run : ShownRun) : Type 0 where
  pub events : run.events.items ≡ g
  pub outcome : AreOutcomeTellingReplies s (outcome_telling_of_script s d) g (explored_outcome run.outcome)
