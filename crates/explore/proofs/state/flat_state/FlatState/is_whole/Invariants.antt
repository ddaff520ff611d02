use Rattle.std.proofs.Common.{ℕ, ◌≡◌, ◌<◌, ◌≤◌, Some, length, slice_get, slice_index}
use Rattle.std.specs.Global.{Vec}
use Rattle.explore.specs.declared.prefixes.script_call.ScriptCall.{ScriptCall}
use Rattle.explore.proofs.state.flat_state.FlatState.is_whole.Given as goal

abbrev pub invariant-loop-processor : goal.invariant-loop-processor
invariant-loop-processor l = (p : ℕ) (row : Vec ScriptCall) → p < l.processor → slice_get l.steps p ≡ Some row
    → length row.items ≤ slice_index l.self.done p
