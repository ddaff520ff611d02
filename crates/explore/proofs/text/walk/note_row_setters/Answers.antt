use Rattle.std.proofs.Common.{◌≡◌, length, subst, arith}
use Rattle.std.proofs.lemmas.Option.{slice_get-get_or}
use Rattle.explore.specs.TextWalks.{AreRowSettersNoted}
use Rattle.explore.proofs.TextWalks.FlagsMet.{flags_met_setters_next}
use Rattle.explore.proofs.text.walk.note_row_setters.Goals as goal

pub loop-step-init : goal.loop-step-init
loop-step-init c = record { keeps = λ f q due. due; noted = λ i step lt. absurd (omega arith) }

pub note_step_setter-requires-clause-within : goal.note_step_setter-requires-clause-within
note_step_setter-requires-clause-within c =
    let at = slice_get-get_or c.args.row.now c.loop-step.step-index _ c.loop-step-test.true in
    (c.requires.within.0, c.requires.within.1 c.loop-step.step-index _ at)

pub loop-step-preserved : goal.loop-step-preserved
loop-step-preserved c =
    let at = slice_get-get_or c.args.row.now c.loop-step.step-index _ c.loop-step-test.true in
    let old = c.loop-step.invariant in
    record {
      keeps = λ f q due. c.note_step_setter.ensures.keeps f q (old.keeps f q due);
      noted =
          flags_met_setters_next c.loop-step.flags c.note_step_setter.new.flags c.args.processor c.args.row.now c.loop-step.step-index _ at
          c.note_step_setter.ensures.keeps old.noted c.note_step_setter.ensures.notes;
    }

pub returns-clause-keeps : goal.returns-clause-keeps
returns-clause-keeps c = c.loop-step.invariant.keeps

pub returns-clause-notes : goal.returns-clause-notes
returns-clause-notes c =
    let over = c.loop-step-test.false in
    let top = c.loop-step.auto.step-index-end in
    let end : c.loop-step.step-index ≡ length c.args.row.now = omega arith in
    subst (AreRowSettersNoted c.loop-step.flags c.args.processor c.args.row.now) end c.loop-step.invariant.noted
