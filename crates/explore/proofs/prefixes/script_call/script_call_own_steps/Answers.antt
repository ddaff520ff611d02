use Rattle.std.proofs.lemmas.Option.{slice_get-get_or}
use Rattle.explore.proofs.PrefixRuns.Steps.{prefix_steps_collected_next}
use Rattle.explore.proofs.prefixes.script_call.script_call_own_steps.Goals as goal

pub loop-instruction-preserved : goal.loop-instruction-preserved
loop-instruction-preserved c =
    let n = c.loop-instruction.instruction-index in
    let at = slice_get-get_or c.args.section.now n _ c.loop-instruction-test.true in
    prefix_steps_collected_next _ _ c.args.section.now n _ at c.loop-instruction.invariant c.in_ok-push_script_calls_of.ensures
