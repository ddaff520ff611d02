use Rattle.std.proofs.Common.{ℕ, ◌≡◌, ◌<◌, ◌≤◌, ◌↔◌, Some, length, slice_index_or}
use Rattle.std.specs.Prelude.{None}
use Rattle.journal.specs.declared.event.Kind.{Kind}
use Rattle.lrc_script.specs.Plan.{Plan}
use Rattle.explore.specs.AllowedBeginnings.{AreAllowedBeginningCallsPlain, AllowedBeginningMayCall, TellsAllowedBeginning, allowed_beginning_events}
use Rattle.explore.specs.Machines.{AreLawfulMachineSteps}
use Rattle.explore.specs.Prefixes.ScriptCalls.{replyless_script_call}
use Rattle.explore.proofs.rules.beginning.AllowedBeginning.next_calls.Given as goal

abbrev pub invariant-loop-processor : goal.invariant-loop-processor
invariant-loop-processor l = record {
  long : length l.calls ≡ 16;
  each : (s : Plan) (p : ℕ) (k : Kind) → AreLawfulMachineSteps s l.steps → TellsAllowedBeginning s l.self → p < l.processor
      → (slice_index_or l.calls p None ≡ Some (replyless_script_call k)) ↔ AllowedBeginningMayCall s (allowed_beginning_events l.self) p k;
  plain : AreAllowedBeginningCallsPlain l.calls;
  others : (p : ℕ) → l.processor ≤ p → slice_index_or l.calls p None ≡ None;
}
