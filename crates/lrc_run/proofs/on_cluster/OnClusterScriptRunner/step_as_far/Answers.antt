use Rattle.lrc_script.specs.Plan.{plan_of}
use Rattle.conformance.specs.OrderedTurns.{IsEndByOrderedTurns, ordered_turns_of_seed}
use Rattle.conformance.specs.RunEnds.{IsRunEnd}
use Rattle.lrc_run.proofs.EndsByTurns.{ends_by_turns_of_script}
use Rattle.lrc_run.proofs.Failing.{failing_ok_as}
use Rattle.lrc_run.proofs.on_cluster.OnClusterScriptRunner.step_as_far.Goals as goal

pub returns-in-Array-clause-end : goal.returns-in-Array-clause-end
returns-in-Array-clause-end g c =
    let s = plan_of c.args.script.now in
    let orders = ordered_turns_of_seed s c.args.seed in
    failing_ok_as c.step_as_far.result (IsEndByOrderedTurns s orders) (IsRunEnd s) (ends_by_turns_of_script s orders) c.step_as_far.ensures.end

pub returns-in-Ticket-clause-end : goal.returns-in-Ticket-clause-end
returns-in-Ticket-clause-end g c =
    let s = plan_of c.args.script.now in
    let orders = ordered_turns_of_seed s c.args.seed in
    failing_ok_as c.step_as_far_with.result (IsEndByOrderedTurns s orders) (IsRunEnd s) (ends_by_turns_of_script s orders) c.step_as_far_with.ensures.end
