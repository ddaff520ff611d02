use Rattle.std.proofs.Common.{Ok, subst}
use Rattle.lrc_script.specs.Plan.{plan_of}
use Rattle.conformance.specs.RunEnds.{IsRunEnd}
use Rattle.conformance.specs.declared.ended.Ended.{Ended}
use Rattle.lrc_program.proofs.program.program_scheduled_report.Goals as goal

pub returns-in-Whole-clause-report : goal.returns-in-Whole-clause-report
returns-in-Whole-clause-report g c =
    let P : Ended → Type 0 = λ e. IsRunEnd (plan_of c.args.script.now) e in
    subst P c.in-Whole.is c.in_ok-ended.ensures.end

pub returns-in-Whole-clause-followed : goal.returns-in-Whole-clause-followed
returns-in-Whole-clause-followed g c =
    let turns = c.in_ok-schedule.schedule.turns.items in
    let P : Ended → Type 0 = λ e. g.T.ScriptRunner.followed (plan_of c.args.script.now) c.args.lock turns (Ok e) in
    (turns, c.in_ok-schedule.ensures, subst P c.in-Whole.is c.in_ok-ended.ensures.followed)
