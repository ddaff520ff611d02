use Rattle.std.proofs.Common.{ℕ, ◌≡◌, ◌<◌, Some, length, slice_get}
use Rattle.std.specs.Prelude.{slice_index_or}
use Rattle.explore.specs.declared.prefixes.script_call.ScriptCall.TheVariants.{Call}
use Rattle.explore.specs.FreeChoice.{free_choice_numbered_call}
use Rattle.explore.proofs.text.facts.NumberedCalls.ends_in.Given as goal

abbrev pub invariant-loop-place : goal.invariant-loop-place
invariant-loop-place l = record {
  ends : (i n : ℕ) → i < l.place → slice_get l.row i ≡ Some (Call (free_choice_numbered_call l.self n)) → i < slice_index_or l.ends n 0;
  long : length l.ends ≡ 32;
}
