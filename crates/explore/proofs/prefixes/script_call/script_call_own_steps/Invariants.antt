use Rattle.std.proofs.Common.{◌≡◌, take}
use Rattle.explore.specs.Prefixes.ScriptCalls.{script_calls_of_all}
use Rattle.explore.proofs.prefixes.script_call.script_call_own_steps.Given as goal

abbrev pub invariant-loop-instruction : goal.invariant-loop-instruction
invariant-loop-instruction l = l.steps.items ≡ script_calls_of_all (take l.instruction-index l.section)
