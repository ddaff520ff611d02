use Rattle.std.proofs.Common.{ℕ, ◌≡◌, ◌<◌, ◌↔◌, List, Some, length, slice_index_or}
use Rattle.std.specs.Prelude.{None}
use Rattle.journal.specs.declared.event.Event.{Event}
use Rattle.journal.specs.declared.event.Kind.{Kind}
use Rattle.judge.specs.Why.{WhyWaitsFor}
use Rattle.explore.specs.KeptWaiting.{TellsKeptWaiting}
use Rattle.explore.proofs.state.flat_state.FlatState.waits.Given as goal

abbrev pub invariant-loop-processor : goal.invariant-loop-processor
invariant-loop-processor l = record {
  long : length l.waits.items ≡ l.processor;
  each : (j : List Event) → TellsKeptWaiting j l.self.waiting → (p : ℕ) (k : Kind) → p < l.processor
      → (slice_index_or l.waits.items p None ≡ Some k) ↔ WhyWaitsFor j p k;
}
