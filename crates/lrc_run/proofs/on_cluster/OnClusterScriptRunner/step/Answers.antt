use Rattle.lrc_script.specs.Plan.{plan_of}
use Rattle.conformance.specs.OrderedTurns.{IsReportByOrderedTurns, ordered_turns_of_seed}
use Rattle.conformance.specs.ScriptReports.{IsScriptReport}
use Rattle.lrc_run.proofs.Failing.{failing_ok_as}
use Rattle.lrc_run.proofs.on_cluster.OnClusterScriptRunner.step.Goals as goal

pub returns-in-Array-clause-report : goal.returns-in-Array-clause-report
returns-in-Array-clause-report g c =
    let s = plan_of c.args.script.now in
    failing_ok_as c.step.result (IsReportByOrderedTurns s (ordered_turns_of_seed s c.args.seed)) (IsScriptReport s) (λ r by. by.report) c.step.ensures.turns

pub returns-in-Ticket-clause-report : goal.returns-in-Ticket-clause-report
returns-in-Ticket-clause-report g c =
    let s = plan_of c.args.script.now in
    failing_ok_as c.step_with.result (IsReportByOrderedTurns s (ordered_turns_of_seed s c.args.seed)) (IsScriptReport s) (λ r by. by.report)
    c.step_with.ensures.turns
