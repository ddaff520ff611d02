use Rattle.std.proofs.Common.{ℕ, ◌≡◌, ◌<◌, [], Some, slice_get, length}
use Rattle.std.specs.Prelude.{slice_index_or}
use Rattle.std.specs.Global.{Vec}
use Rattle.explore.specs.declared.prefixes.script_call.ScriptCall.{ScriptCall}
use Rattle.explore.specs.FreeChoice.{AreFreeChoiceEnds}
use Rattle.explore.proofs.text.facts.NumberedCalls.ends_of_all.Given as goal

abbrev pub invariant-loop-processor : goal.invariant-loop-processor
invariant-loop-processor l = record {
  ends : (p : ℕ) (row : Vec ScriptCall) → p < l.processor → slice_get l.steps p ≡ Some row
      → AreFreeChoiceEnds l.self row.items (slice_index_or l.ends p []);
  long : length l.ends ≡ 16;
}
