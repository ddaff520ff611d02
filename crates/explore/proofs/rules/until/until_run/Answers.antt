use Rattle.std.proofs.Common.{sym, subst}
use Rattle.lrc_script.specs.Plan.{plan_of}
use Rattle.explore.specs.AllowedUntil.{IsAllowedUntilRun}
use Rattle.explore.specs.Machines.{machine_rows}
use Rattle.explore.specs.OutcomeTelling.{AreOutcomeTellingReplies, outcome_telling_of_script}
use Rattle.explore.proofs.rules.until.until_run.Goals as goal

pub returns : goal.returns
returns c = λ words ends.
    let s = plan_of c.args.script.now in
    let rows = machine_rows c.in_ok-replies.replies.items in
    record {
      is = subst (IsAllowedUntilRun s words) (sym c.into_events.ensures) ends;
      outcome =
          subst (λ g. AreOutcomeTellingReplies s (outcome_telling_of_script s c.args.detail) g rows) (sym c.into_events.ensures)
          (subst (λ t. AreOutcomeTellingReplies s t c.args.beginning.events.items rows) c.of_script-telling.ensures
          (c.in_ok-replies.ensures s c.requires.steps c.requires.told));
    }
