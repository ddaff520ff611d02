use Rattle.std.proofs.Common.{◌≡◌, List, take}
use Rattle.journal.specs.declared.event.Event.{Event}
use Rattle.lrc_script.specs.Plan.{Plan}
use Rattle.explore.specs.FoundStates.{AreEventsOfMakers}
use Rattle.explore.specs.Machines.{MachineKnows}
use Rattle.explore.proofs.state.found_states.events_of_makers.Given as goal

abbrev pub invariant-loop-maker : goal.invariant-loop-maker
invariant-loop-maker l = record {
  made : (s : Plan) (es : List Event) → AreEventsOfMakers s l.steps l.fn.first es l.makers → l.events.items ≡ take l.maker-index es;
  knows : (s : Plan) (es : List Event) → AreEventsOfMakers s l.steps l.fn.first es l.makers → MachineKnows s (take l.maker-index es) l.state;
}
