use Rattle.std.proofs.Common.{◌<◌, length, inl, inr, sym, subst, ◌∙◌, arith}
use Rattle.std.specs.Global.{Vec}
use Rattle.std.proofs.lemmas.Option.{same_Some}
use Rattle.explore.specs.declared.prefixes.script_call.ScriptCall.{ScriptCall}
use Rattle.explore.specs.UnguardedWords.{text_accesses_kept}
use Rattle.explore.specs.TextGuards.{text_guard_departures_at, text_guard_held_at, text_guarded_step_stores}
use Rattle.explore.proofs.MachineSteps.{machine_step_read_at}
use Rattle.explore.proofs.Locksets.Noted.{lockset_noted_holds_step, lockset_noted_phase_small, lockset_noted_phase_step}
use Rattle.explore.proofs.UnguardedWords.{unguarded_words_are_next, unguarded_words_has_there, unguarded_words_like_there, unguarded_words_row_next}
use Rattle.explore.proofs.text.text_accesses.note_row_text_accesses.Goals as goal

pub loop-place-init : goal.loop-place-init
loop-place-init c = record {
  place = c.new-at.ensures.place;
  phase = c.new-at.ensures.phase;
  held = λ q. c.new-at.ensures.held q;
  long = c.requires.long;
  keeps = λ w x has. has;
  are = λ w are. are;
  noted = λ w below unknown i a x lt. absurd (omega arith);
}

pub loop-place-preserved : goal.loop-place-preserved
loop-place-preserved c =
    let steps = c.args.steps.now in
    let p = c.args.processor in
    let n = c.loop-place.place in
    let row = c.index-steps-processor.result in
    let row_at = machine_step_read_at steps p row c.requires.processor c.index-steps-processor.is in
    let step = c.index-step.result.now in
    let lt : n < length row.items = (let size = row.ok.0 in let test = c.loop-place-test.true in omega arith) in
    let at = machine_step_read_at row.items n step lt c.index-step.ensures in
    let old = c.loop-place.invariant in
    let noted = c.in_ok-note_step_text_access.ensures in
    record {
      place = c.pass.ensures.place ∙ (let is = old.place in omega arith);
      phase = lockset_noted_phase_step row.items n _ _ step c.pass.ensures.phase old.phase at;
      held = λ q. lockset_noted_holds_step row.items n q _ _ step (c.pass.ensures.held q) (old.held q) at;
      long = c.note_step_text_access.ensures.long ∙ old.long;
      keeps = λ w x has. noted.keeps w x (old.keeps w x has);
      are = λ w are x has. elim (noted.only w x has) [
        | inl before ↦ old.are w are x before
        | inr now ↦
            unguarded_words_are_next steps w p n row step x row_at at now.0 (now.1 ∙ old.place)
            (unguarded_words_like_there x p _ (text_guard_departures_at row.items n) (text_guarded_step_stores step) _ (text_guard_held_at row.items n) old.phase old.held now.2)
      ];
      noted = λ w below unknown.
          unguarded_words_row_next steps w p n row step (text_accesses_kept c.loop-place.kept.items w)
          (text_accesses_kept c.note_step_text_access.new.kept.items w) row_at at (noted.keeps w) (old.noted w below unknown)
          (λ address. unguarded_words_has_there (text_accesses_kept c.note_step_text_access.new.kept.items w) p _ (text_guard_departures_at row.items n)
          (text_guarded_step_stores step) _ (text_guard_held_at row.items n) old.phase old.held (noted.noted w below unknown address));
    }

pub pass-requires-clause-within : goal.pass-requires-clause-within
pass-requires-clause-within c =
    let n = c.loop-place.place in
    let row = c.index-steps-processor.result in
    let row_at = machine_step_read_at c.args.steps.now c.args.processor row c.requires.processor c.index-steps-processor.is in
    let lt : n < length row.items = (let size = row.ok.0 in let test = c.loop-place-test.true in omega arith) in
    let at = machine_step_read_at row.items n c.index-step.result.now lt c.index-step.ensures in
    (c.requires.within.0, c.requires.within.1 c.args.processor row row_at n c.index-step.result.now at)

pub pass-requires-clause-place : goal.pass-requires-clause-place
pass-requires-clause-place c =
    let row = c.index-steps-processor.result in
    let row_at = machine_step_read_at c.args.steps.now c.args.processor row c.requires.processor c.index-steps-processor.is in
    let lt : c.loop-place.place < length row.items = (let size = row.ok.0 in let test = c.loop-place-test.true in omega arith) in
    let few = c.requires.few c.args.processor row row_at in
    let is = c.loop-place.invariant.place in
    omega (arith, few, is, lt)

pub pass-requires-clause-phase : goal.pass-requires-clause-phase
pass-requires-clause-phase c =
    let row = c.index-steps-processor.result in
    let row_at = machine_step_read_at c.args.steps.now c.args.processor row c.requires.processor c.index-steps-processor.is in
    let lt : c.loop-place.place < length row.items = (let size = row.ok.0 in let test = c.loop-place-test.true in omega arith) in
    let few = c.requires.few c.args.processor row row_at in
    let is = c.loop-place.invariant.phase in
    let small = lockset_noted_phase_small row.items c.loop-place.place (omega arith) in
    omega (arith, few, is, small, lt)

pub returns-clause-noted : goal.returns-clause-noted
returns-clause-noted c = λ w known unknown row at i a x lt.
    let here = c.index-steps-processor.result in
    let here_at = machine_step_read_at c.args.steps.now c.args.processor here c.requires.processor c.index-steps-processor.is in
    let same = same_Some row here (sym at ∙ here_at) in
    let below = subst (λ (r : Vec ScriptCall). i < length r.items) same lt in
    let size = here.ok.0 in
    let over = c.loop-place-test.false in
    let end = c.loop-place.auto.place-end in
    c.loop-place.invariant.noted w known unknown i a x (omega arith)
