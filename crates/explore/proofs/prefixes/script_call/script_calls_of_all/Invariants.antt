use Rattle.std.proofs.Common.{◌≡◌, length}
use Rattle.lrc_script.specs.Plan.{plan_of}
use Rattle.explore.proofs.PrefixRuns.Steps.{ArePrefixRowsOfSteps}
use Rattle.explore.proofs.prefixes.script_call.script_calls_of_all.Given as goal

abbrev pub invariant-loop-processor : goal.invariant-loop-processor
invariant-loop-processor l = (length l.all.items ≡ l.processor) × ArePrefixRowsOfSteps (plan_of l.script) l.all.items
