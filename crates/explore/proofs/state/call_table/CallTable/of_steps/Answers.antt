use Rattle.std.proofs.Common.{◌≡◌, ◌<◌, ◌^◌, Some, inl, inr, length, slice_get, ap, sym, subst, ◌∙◌, ◌∷◌, [], length-append, arith}
use Rattle.std.proofs.lemmas.Option.{same_Some}
use Rattle.base.proofs.SlicesAndCounts.{slice_push_cases}
use Rattle.explore.specs.CallTables.{TellsCallRow}
use Rattle.explore.proofs.MachineSteps.{machine_step_read_at, machine_step_row, machine_step_row_proper}
use Rattle.explore.proofs.Locksets.Noted.{lockset_noted_each_few}
use Rattle.explore.proofs.state.call_table.CallTable.of_steps.Goals as goal

pub of_steps-requires-clause-steps : goal.of_steps-requires-clause-steps
of_steps-requires-clause-steps c = λ i step here.
    let s = c.requires.0 in
    let steps = c.requires.1 in
    let p = c.loop-processor.processor in
    let row = c.index-steps-processor.result in
    let at = machine_step_read_at c.args.steps.now p row c.loop-processor-test.true c.index-steps-processor.is in (
      s,
      steps.lawful,
      machine_step_row_proper s p row i step steps.lawful (machine_step_row s c.args.steps.now p row steps.are at)
          (subst (λ xs. slice_get xs i ≡ Some step) c.deref.ensures.value here),
    )

pub of_steps-requires-clause-few : goal.of_steps-requires-clause-few
of_steps-requires-clause-few c =
    let p = c.loop-processor.processor in
    let row = c.index-steps-processor.result in
    let at = machine_step_read_at c.args.steps.now p row c.loop-processor-test.true c.index-steps-processor.is in
    subst (λ xs. length xs < 2 ^ 15) (sym c.deref.ensures.value) (lockset_noted_each_few c.requires.0 c.args.steps.now c.requires.1 p row at)

pub loop-processor-preserved : goal.loop-processor-preserved
loop-processor-preserved c =
    let n = c.loop-processor.processor in
    let mine = c.index-steps-processor.result in
    let at = machine_step_read_at c.args.steps.now n mine c.loop-processor-test.true c.index-steps-processor.is in
    let old = c.loop-processor.invariant in
    let x = c.in_ok-of_steps.field-0 in
    let told = subst (λ xs. TellsCallRow xs x) c.deref.ensures.value c.in_ok-of_steps.ensures in
    let long = old.long in
    record {
      long = (
          let longer = ap (λ (xs : _). length xs) c.in_ok-push.ensures.items in
          let one = length-append c.loop-processor.rows.items (x ∷ []) in
          omega (arith, longer, one, long));
      each = λ p row y here there.
          elim (slice_push_cases c.loop-processor.rows.items x p y (ap (λ xs. slice_get xs p) (sym c.in_ok-push.ensures.items) ∙ there)) [
            | inl before ↦ old.each p row y here before.1
            | inr now ↦
                (let place = now.0 ∙ long in
                let same = same_Some mine row (sym at ∙ ap (slice_get c.args.steps.now) (sym place) ∙ here) in
                subst (TellsCallRow row.items) now.1 (subst (λ r. TellsCallRow r.items x) same told))
          ];
    }
