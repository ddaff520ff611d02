use Rattle.std.proofs.Common.{◌≡◌, length, sym, subst, arith}
use Rattle.explore.specs.TextWalks.{AreFlagSettersNoted, AreRowSettersNoted}
use Rattle.explore.specs.Users.{AreUserStepsWithin}
use Rattle.explore.proofs.MachineSteps.{machine_step_read_at}
use Rattle.explore.proofs.TextWalks.FlagsMet.{flags_met_setters_more}
use Rattle.explore.proofs.text.walk.flag_setters_of.Goals as goal

pub loop-processor-init : goal.loop-processor-init
loop-processor-init c = λ p row lt. absurd (omega arith)

pub note_row_setters-requires-clause-within : goal.note_row_setters-requires-clause-within
note_row_setters-requires-clause-within c =
    let p = c.loop-processor.processor in
    let row = c.index-steps-processor.result in
    let at = machine_step_read_at c.args.steps.now p row c.loop-processor-test.true c.index-steps-processor.is in
    (c.requires.within.0, subst (AreUserStepsWithin c.requires.within.0) (sym c.deref.ensures.value) (c.requires.within.1 p row at))

pub loop-processor-preserved : goal.loop-processor-preserved
loop-processor-preserved c =
    let p = c.loop-processor.processor in
    let row = c.index-steps-processor.result in
    let at = machine_step_read_at c.args.steps.now p row c.loop-processor-test.true c.index-steps-processor.is in
    let noted = subst (λ xs. AreRowSettersNoted c.note_row_setters.new.flags p xs (length xs)) c.deref.ensures.value c.note_row_setters.ensures.notes in
    flags_met_setters_more c.loop-processor.flags c.note_row_setters.new.flags c.args.steps.now p row at c.note_row_setters.ensures.keeps
    c.loop-processor.invariant noted

pub returns : goal.returns
returns c =
    let over = c.loop-processor-test.false in
    let top = c.loop-processor.auto.processor-end in
    let end : c.loop-processor.processor ≡ length c.args.steps.now = omega arith in
    subst (AreFlagSettersNoted c.loop-processor.flags c.args.steps.now) end c.loop-processor.invariant
