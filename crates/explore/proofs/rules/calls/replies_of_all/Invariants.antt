use Rattle.std.proofs.Common.{ℕ, ◌≡◌, Some, length, slice_get}
use Rattle.std.specs.Global.{Vec}
use Rattle.conformance.specs.Follows.{calls_of}
use Rattle.explore.specs.declared.prefixes.script_call.ScriptCall.{ScriptCall}
use Rattle.explore.specs.OutcomeTelling.{outcome_telling_replies}
use Rattle.explore.proofs.rules.calls.replies_of_all.Given as goal

abbrev pub invariant-loop-processor : goal.invariant-loop-processor
invariant-loop-processor l = record {
  long : length l.all.items ≡ l.processor;
  each : (p : ℕ) (row : Vec ScriptCall) (told : Vec ℕ) → slice_get l.steps p ≡ Some row → slice_get l.all.items p ≡ Some told
      → told.items ≡ outcome_telling_replies l.telling p row.items 0 (calls_of l.events p);
}
