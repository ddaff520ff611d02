use Rattle.std.proofs.Common.{ℕ, ◌≡◌, Some, length, slice_get}
use Rattle.std.specs.Global.{Vec}
use Rattle.explore.specs.declared.state.call_table.CallRow.{CallRow}
use Rattle.explore.specs.declared.prefixes.script_call.ScriptCall.{ScriptCall}
use Rattle.explore.specs.CallTables.{TellsCallRow}
use Rattle.explore.proofs.state.call_table.CallTable.of_steps.Given as goal

abbrev pub invariant-loop-processor : goal.invariant-loop-processor
invariant-loop-processor l = record {
  long : length l.rows.items ≡ l.processor;
  each : (p : ℕ) (row : Vec ScriptCall) (x : CallRow) → slice_get l.steps p ≡ Some row → slice_get l.rows.items p ≡ Some x → TellsCallRow row.items x;
}
