use Rattle.std.proofs.Common.{Ok, subst}
use Rattle.lrc_script.specs.Plan.{plan_of}
use Rattle.conformance.specs.declared.ended.Ended.{Ended}
use Rattle.conformance.specs.declared.script_runner.LockChoice.TheVariants.{Ticket}
use Rattle.conformance.specs.RunEnds.{IsRunEnd}
use Rattle.conformance.specs.ScriptReports.{IsScriptReport}
use Rattle.explore.proofs.memory.shown.shown_by_schedule.Goals as goal

pub returns-in-Ok-Whole : goal.returns-in-Ok-Whole
returns-in-Ok-Whole g c =
    let s = plan_of c.args.script.now in
    let E : Ended → Type 0 = λ e. IsRunEnd s e in
    let F : Ended → Type 0 = λ e. g.T.ScriptRunner.followed s Ticket c.args.schedule.now.turns.items (Ok e) in
    let is : IsScriptReport s c.in-Ok-Whole.report = subst E c.in-Ok-Whole.field-0-is c.in-Ok-Whole.ensures.end in
    record {
      report = c.in-Ok-Whole.report;
      came = subst F c.in-Ok-Whole.field-0-is c.in-Ok-Whole.ensures.followed;
      history = is.history;
      tells = is.tells;
      told = c.in_ok-outcome-in-Ok-Whole.ensures is;
    }
