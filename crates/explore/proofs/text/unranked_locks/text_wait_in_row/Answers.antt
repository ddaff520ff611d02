use Rattle.std.proofs.Common.{◌<◌, length, sym, ◌∙◌, arith}
use Rattle.explore.proofs.MachineSteps.{machine_step_read_at}
use Rattle.explore.proofs.Locksets.Noted.{lockset_noted_holds_step, lockset_noted_phase_small, lockset_noted_phase_step}
use Rattle.explore.proofs.text.unranked_locks.text_wait_in_row.Goals as goal

pub loop-place-init : goal.loop-place-init
loop-place-init c = record {
  place = c.new-at.ensures.place;
  phase = c.new-at.ensures.phase;
  held = λ q. c.new-at.ensures.held q;
}

pub loop-place-preserved : goal.loop-place-preserved
loop-place-preserved c =
    let steps = c.args.steps.now in
    let p = c.args.processor in
    let n = c.loop-place.place in
    let row = c.index-steps-processor.result in
    let row_at = machine_step_read_at steps p row c.requires.processor c.index-steps-processor.is in
    let step = c.index-step.result.now in
    let lt : n < length row.items = (let size = row.ok.0 in let test = c.loop-place-test.true in omega arith) in
    let at = machine_step_read_at row.items n step lt c.index-step.ensures in
    let old = c.loop-place.invariant in
    record {
      place = c.pass.ensures.place ∙ (let is = old.place in omega arith);
      phase = lockset_noted_phase_step row.items n _ _ step c.pass.ensures.phase old.phase at;
      held = λ q. lockset_noted_holds_step row.items n q _ _ step (c.pass.ensures.held q) (old.held q) at;
    }

pub pass-requires-clause-within : goal.pass-requires-clause-within
pass-requires-clause-within c =
    let n = c.loop-place.place in
    let row = c.index-steps-processor.result in
    let row_at = machine_step_read_at c.args.steps.now c.args.processor row c.requires.processor c.index-steps-processor.is in
    let lt : n < length row.items = (let size = row.ok.0 in let test = c.loop-place-test.true in omega arith) in
    let at = machine_step_read_at row.items n c.index-step.result.now lt c.index-step.ensures in
    (c.requires.within.0, c.requires.within.1 c.args.processor row row_at n c.index-step.result.now at)

pub pass-requires-clause-place : goal.pass-requires-clause-place
pass-requires-clause-place c =
    let row = c.index-steps-processor.result in
    let row_at = machine_step_read_at c.args.steps.now c.args.processor row c.requires.processor c.index-steps-processor.is in
    let lt : c.loop-place.place < length row.items = (let size = row.ok.0 in let test = c.loop-place-test.true in omega arith) in
    let few = c.requires.few c.args.processor row row_at in
    let is = c.loop-place.invariant.place in
    omega (arith, few, is, lt)

pub pass-requires-clause-phase : goal.pass-requires-clause-phase
pass-requires-clause-phase c =
    let row = c.index-steps-processor.result in
    let row_at = machine_step_read_at c.args.steps.now c.args.processor row c.requires.processor c.index-steps-processor.is in
    let lt : c.loop-place.place < length row.items = (let size = row.ok.0 in let test = c.loop-place-test.true in omega arith) in
    let few = c.requires.few c.args.processor row row_at in
    let is = c.loop-place.invariant.phase in
    let small = lockset_noted_phase_small row.items c.loop-place.place (omega arith) in
    omega (arith, few, is, small, lt)

pub returns-in-loop-place : goal.returns-in-loop-place
returns-in-loop-place c =
    let n = c.loop-place.place in
    let row = c.index-steps-processor.result in
    let step = c.index-step.result.now in
    let lt : n < length row.items = (let size = row.ok.0 in let test = c.loop-place-test.true in omega arith) in
    record {
      row = row;
      row_at = machine_step_read_at c.args.steps.now c.args.processor row c.requires.processor c.index-steps-processor.is;
      step = step;
      at = machine_step_read_at row.items n step lt c.index-step.ensures;
      waits = sym c.step_waits_unlocked.ensures ∙ c.if-step_waits_unlocked.true;
      held = sym (c.loop-place.invariant.held c.in-Some.held) ∙ c.in-Some.ensures;
    }
