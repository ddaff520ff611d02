use Rattle.std.proofs.Common.{◌≡◌, ◌<◌, List, Some, length, reverse, slice_get}
use Rattle.lrc_script.specs.Plan.{Plan}
use Rattle.journal.specs.declared.event.Event.{Event}
use Rattle.explore.specs.declared.state.flat_state.FlatState.{FlatState}
use Rattle.explore.specs.FoundStates.{AreFoundStates, AreMakersBehind, found_states}
use Rattle.explore.specs.Machines.{MachineKnows}
use Rattle.explore.proofs.state.found_states.FoundStates.makers_to.Given as goal

abbrev pub invariant-loop-place : goal.invariant-loop-place
invariant-loop-place l = record {
  within : l.place < length (found_states l.self);
  rest : (s : Plan) (g : List Event) (m f : FlatState) → AreFoundStates s l.self
      → slice_get (found_states l.self) l.fn.place ≡ Some m → slice_get (found_states l.self) l.place ≡ Some f → MachineKnows s g f
      → AreMakersBehind s g m (reverse l.makers.items);
}

abbrev pub decreases-loop-place : goal.decreases-loop-place
decreases-loop-place l = l.place
