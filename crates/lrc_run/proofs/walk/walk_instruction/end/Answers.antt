use Rattle.std.proofs.Common.{rules, ◌≡◌, Err, ap, ◌∙◌}
use Rattle.book.specs.declared.refused.Refused.TheVariants.{NotYet}
use Rattle.lrc_run.proofs.MoreCalls.{sees_more_calls_taken_all, sees_more_calls_nothing_taken}
use Rattle.lrc_run.proofs.VainLooks.{vain_look_late_entered, vain_look_taken_entered}
use Rattle.lrc_run.proofs.walk.walk_instruction.end.Goals as goal

pub returns-in-Ok-clause-ok : goal.returns-in-Ok-clause-ok
returns-in-Ok-clause-ok g c =
    sees_more_calls_taken_all c.args.processor.now c.take.new.processor c.take.result c.in-Ok.is c.take.ensures

pub returns-in-Err-NotYet-clause-ok : goal.returns-in-Err-NotYet-clause-ok
returns-in-Err-NotYet-clause-ok g c =
    let late : c.in-Err-NotYet.field-0 ≡ NotYet = search rules in
    sees_more_calls_nothing_taken c.args.processor.now c.take.new.processor c.take.result (c.in-Err-NotYet.is ∙ ap Err late)
    c.take.ensures

pub returns-in-Ok-clause-entered : goal.returns-in-Ok-clause-entered
returns-in-Ok-clause-entered g c =
    vain_look_taken_entered c.args.processor.now c.take.new.processor c.take.result c.in-Ok.is c.take.ensures

pub returns-in-Err-NotYet-clause-entered : goal.returns-in-Err-NotYet-clause-entered
returns-in-Err-NotYet-clause-entered g c =
    let late : c.in-Err-NotYet.field-0 ≡ NotYet = search rules in
    vain_look_late_entered c.args.processor.now c.take.new.processor c.take.result (c.in-Err-NotYet.is ∙ ap Err late) c.take.ensures
