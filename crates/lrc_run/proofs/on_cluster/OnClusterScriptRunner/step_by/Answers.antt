use Rattle.lrc_script.specs.Plan.{plan_of}
use Rattle.conformance.specs.OrderedTurns.{IsEndByOrderedTurns}
use Rattle.conformance.specs.RunEnds.{IsRunEnd}
use Rattle.conformance.specs.ScheduleTexts.{schedule_orders}
use Rattle.lrc_run.proofs.EndsByTurns.{ends_by_turns_of_script}
use Rattle.lrc_run.proofs.Failing.{failing_ok_as}
use Rattle.lrc_run.proofs.on_cluster.OnClusterScriptRunner.step_by.Goals as goal

pub returns-in-Array-clause-end : goal.returns-in-Array-clause-end
returns-in-Array-clause-end g c =
    let s = plan_of c.args.script.now in
    let orders = schedule_orders s c.args.schedule.now.turns.items in
    failing_ok_as c.step_scheduled.result (IsEndByOrderedTurns s orders) (IsRunEnd s) (ends_by_turns_of_script s orders) c.step_scheduled.ensures.end

pub returns-in-Ticket-clause-end : goal.returns-in-Ticket-clause-end
returns-in-Ticket-clause-end g c =
    let s = plan_of c.args.script.now in
    let orders = schedule_orders s c.args.schedule.now.turns.items in
    failing_ok_as c.step_scheduled_with.result (IsEndByOrderedTurns s orders) (IsRunEnd s) (ends_by_turns_of_script s orders) c.step_scheduled_with.ensures.end
