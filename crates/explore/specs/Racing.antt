-- Two next events that conflict, and what comes of them.
use Rattle.std.specs.Prelude.{ℕ, List}
use Rattle.std.specs.Global.{Vec}
use Rattle.journal.specs.declared.event.Event.{Event}
use Rattle.journal.specs.Races.{Race}
use Rattle.lrc_script.specs.Plan.{Plan}
use Rattle.explore.specs.declared.prefixes.script_call.ScriptCall.{ScriptCall}
use Rattle.explore.specs.Prefixes.FlatBeginnings.{IsFlatBeginning}
use Rattle.explore.specs.declared.state.found_states.FoundStates.{FoundStates}
use Rattle.explore.specs.declared.search.neighbours.Neighbours.{Neighbours}
use Rattle.explore.specs.FoundStates.{AreFoundStates, found_states}
use Rattle.explore.specs.Machines.{AreLawfulMachineSteps}
use Rattle.explore.specs.Nexts.{AreNextNeighbours}

-- two next events of a lawful script conflict
pub record AreRacing (s : Plan) (x : FoundStates) (steps : List (Vec ScriptCall)) (neighbours : Neighbours) : Type 0 where
  pub lawful : AreLawfulMachineSteps s steps
  pub found : AreFoundStates s x
  pub are : AreNextNeighbours s (found_states x) neighbours

-- a prefix that races
pub record IsRacingBeginning (s : Plan) (g : List Event) : Type 0 where
  pub beginning : IsFlatBeginning s g
  pub first : ℕ
  pub second : ℕ
  pub race : Race g first second
