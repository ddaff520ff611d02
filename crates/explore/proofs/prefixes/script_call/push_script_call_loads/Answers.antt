use Rattle.std.proofs.lemmas.Option.{slice_get-get_or}
use Rattle.explore.proofs.PrefixRuns.Steps.{prefix_steps_loads_next}
use Rattle.explore.proofs.prefixes.script_call.push_script_call_loads.Goals as goal

pub loop-address-preserved : goal.loop-address-preserved
loop-address-preserved c =
    let n = c.loop-address.address-index in
    let at = slice_get-get_or c.args.shown.now n _ c.loop-address-test.true in
    prefix_steps_loads_next c.args.steps.now.items _ _ c.args.shown.now n _ at c.loop-address.invariant c.in_ok-push.ensures.items
