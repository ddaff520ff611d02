use Rattle.std.proofs.Common.{◌≡◌, ◌<◌, length, sym, subst, ◌∙◌, arith}
use Rattle.std.specs.Prelude.{◌^◌, vec_len}
use Rattle.explore.specs.Users.{AreStepUsersNoted, AreUserRowsNoted, AreUserStepsWithin}
use Rattle.explore.proofs.MachineSteps.{machine_step_read_at}
use Rattle.explore.proofs.Locksets.Noted.{lockset_noted_rows_more}
use Rattle.explore.proofs.text.guards.guarded_word_uses.Goals as goal

pub loop-processor-init : goal.loop-processor-init
loop-processor-init c = record {
  long = (let is = c.in_ok-words.ensures.long in let size = c.in_ok-words.words.ok.0 in omega arith);
  noted = λ p row lt. absurd (omega arith);
  sound = c.in_ok-words.ensures.sound;
}

pub track_guarded_row-requires-clause-within : goal.track_guarded_row-requires-clause-within
track_guarded_row-requires-clause-within c =
    let p = c.loop-processor.processor in
    let row = c.index-steps-processor.result in
    let at = machine_step_read_at c.args.steps.now p row c.loop-processor-test.true c.index-steps-processor.is in
    let long = c.loop-processor.invariant.long in
    let size = c.loop-processor.words.ok.0 in
    let same : c.args.size ≡ vec_len c.loop-processor.words = omega arith in
    subst (λ xs. AreUserStepsWithin (vec_len c.loop-processor.words) xs) (sym c.deref.ensures.value)
    (subst (λ n. AreUserStepsWithin n row.items) same (c.requires.within p row at))

pub track_guarded_row-requires-clause-few : goal.track_guarded_row-requires-clause-few
track_guarded_row-requires-clause-few c =
    let p = c.loop-processor.processor in
    let row = c.index-steps-processor.result in
    let at = machine_step_read_at c.args.steps.now p row c.loop-processor-test.true c.index-steps-processor.is in
    let few = c.requires.few p row at in
    subst (λ xs. length xs < 2 ^ 15) (sym c.deref.ensures.value) few

pub loop-processor-preserved : goal.loop-processor-preserved
loop-processor-preserved c =
    let p = c.loop-processor.processor in
    let row = c.index-steps-processor.result in
    let at = machine_step_read_at c.args.steps.now p row c.loop-processor-test.true c.index-steps-processor.is in
    let old = c.loop-processor.invariant in
    let keeps = c.in_ok-track_guarded_row.ensures.keeps in
    let noted = subst (λ xs. AreStepUsersNoted c.track_guarded_row.new.words.items p xs (length xs)) c.deref.ensures.value
    c.in_ok-track_guarded_row.ensures.noted in
    record {
      long = keeps.long ∙ old.long;
      noted = lockset_noted_rows_more c.loop-processor.words.items c.track_guarded_row.new.words.items c.args.steps.now p row at keeps old.noted noted;
      sound = keeps.sound old.sound;
    }

pub returns-clause-noted : goal.returns-clause-noted
returns-clause-noted c =
    let over = c.loop-processor-test.false in
    let top = c.loop-processor.auto.processor-end in
    let end : c.loop-processor.processor ≡ length c.args.steps.now = omega arith in
    subst (AreUserRowsNoted c.loop-processor.words.items c.args.steps.now) end c.loop-processor.invariant.noted
