use Rattle.std.proofs.Common.{ℕ, ◌≡◌, ◌<◌, ◌≤◌, ◌↔◌, List, Some, length, slice_index_or}
use Rattle.std.specs.Prelude.{None}
use Rattle.journal.specs.declared.event.Event.{Event}
use Rattle.journal.specs.declared.event.Kind.{Kind}
use Rattle.journal.specs.DidEvent.{did}
use Rattle.lrc_script.specs.Plan.{Plan}
use Rattle.explore.specs.Prefixes.FlatBeginnings.{IsFlatBeginning}
use Rattle.explore.specs.Machines.{AreLawfulMachineSteps, MachineKnows}
use Rattle.explore.proofs.search.neighbours.neighbour_nexts_of.Given as goal

abbrev pub invariant-loop-processor : goal.invariant-loop-processor
invariant-loop-processor l = record {
  long : length l.nexts ≡ 16;
  each : (s : Plan) (g : List Event) (p : ℕ) (k : Kind) → AreLawfulMachineSteps s l.steps → MachineKnows s g l.state
      → p < l.processor → (slice_index_or l.nexts p None ≡ Some k) ↔ IsFlatBeginning s (did g p k);
  others : (p : ℕ) → l.processor ≤ p → slice_index_or l.nexts p None ≡ None;
}
