use Rattle.std.proofs.Common.{◌≡◌, ℕ, ◌<◌, Some, length, slice_get}
use Rattle.std.specs.Global.{Vec}
use Rattle.explore.specs.declared.prefixes.script_call.ScriptCall.{ScriptCall}
use Rattle.lrc_tester.specs.declared.following.Come.{Come}
use Rattle.lrc_tester.proofs.following.end.Given as goal

-- each before has come to its section's end
abbrev pub invariant-loop-processor : goal.invariant-loop-processor
invariant-loop-processor l =
    (q : ℕ) → q < l.processor → (x : Come) (row : Vec ScriptCall) → slice_get l.come q ≡ Some x → slice_get l.rows q ≡ Some row
    → x.made ≡ length row.items
