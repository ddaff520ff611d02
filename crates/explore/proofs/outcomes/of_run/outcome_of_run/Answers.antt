use Rattle.std.proofs.Common.{sym, subst}
use Rattle.lrc_script.specs.Plan.{plan_of}
use Rattle.explore.specs.Machines.{AreLawfulMachineSteps, machine_rows}
use Rattle.explore.specs.OutcomeTelling.{AreOutcomeTellingReplies}
use Rattle.explore.specs.Prefixes.ScriptCalls.{AreScriptCallRows}
use Rattle.explore.proofs.ToldRows.{told_rows_few, told_rows_replies}
use Rattle.explore.proofs.PrefixRuns.Beginnings.{prefix_beginning_of_followed}
use Rattle.explore.proofs.outcomes.of_run.outcome_of_run.Goals as goal

pub replies_of_all-requires : goal.replies_of_all-requires
replies_of_all-requires c =
    let s = plan_of c.args.script.now in
    let g = c.args.events.now in
    let lawful : AreLawfulMachineSteps s c.deref.result.now = record {
      lawful = c.requires.lawful;
      are = subst (AreScriptCallRows s) (sym c.deref.ensures.value) c.in_ok-steps.ensures;
    } in
    told_rows_few s c.deref.result.now g lawful (prefix_beginning_of_followed s g c.requires.follows)

pub returns : goal.returns
returns c =
    let s = plan_of c.args.script.now in
    let lawful : AreLawfulMachineSteps s c.deref.result.now = record {
      lawful = c.requires.lawful;
      are = subst (AreScriptCallRows s) (sym c.deref.ensures.value) c.in_ok-steps.ensures;
    } in
    let g = c.args.events.now in
    let rows = c.in_ok-replies.replies.items in
    subst (λ t. AreOutcomeTellingReplies s t g (machine_rows rows)) c.of_script-telling.ensures
    (told_rows_replies s c.of_script-telling.result g c.deref.result.now rows lawful
    (record { long = c.in_ok-replies.ensures.long; each = c.in_ok-replies.ensures.each }))
