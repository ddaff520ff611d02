use Rattle.std.proofs.Common.{◌≡◌, ◌++◌, take}
use Rattle.explore.specs.Prefixes.ScriptCalls.{script_call_loads}
use Rattle.explore.proofs.prefixes.script_call.push_script_call_loads.Given as goal

abbrev pub invariant-loop-address : goal.invariant-loop-address
invariant-loop-address l = l.steps.items ≡ l.initial.steps.items ++ script_call_loads (take l.address-index l.shown)
