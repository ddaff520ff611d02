use Rattle.std.proofs.Common.{◌∙◌, refl, sym, subst, arith}
use Rattle.std.proofs.lemmas.List.{length-set}
use Rattle.std.proofs.lemmas.Option.{slice_get_within}
use Rattle.explore.specs.FreeChoice.{AreFreeChoiceEnds, AreFreeChoiceNumbersSmall}
use Rattle.explore.proofs.ChoosingFree.{choosing_free_ends_of_rows}
use Rattle.explore.proofs.MachineSteps.{machine_step_read_at}
use Rattle.explore.proofs.text.facts.NumberedCalls.ends_of_all.Goals as goal

pub loop-processor-init : goal.loop-processor-init
loop-processor-init c = record { ends = λ p row lt. absurd (omega arith); long = refl }

pub ends_in-requires : goal.ends_in-requires
ends_in-requires c =
    let p = c.loop-processor.processor in
    let row = c.index-steps-processor.result in
    let at = machine_step_read_at c.args.steps.now p row c.loop-processor-test.true c.index-steps-processor.is in
    subst AreFreeChoiceNumbersSmall (sym c.deref.ensures.value) (c.requires.small p row at)

pub loop-processor-preserved : goal.loop-processor-preserved
loop-processor-preserved c =
    let p = c.loop-processor.processor in
    let row = c.index-steps-processor.result in
    let at = machine_step_read_at c.args.steps.now p row c.loop-processor-test.true c.index-steps-processor.is in
    let lt = c.loop-processor-test.true in
    let few = c.requires.few in
    let long = c.loop-processor.invariant.long in
    record {
      ends = choosing_free_ends_of_rows c.args.self c.args.steps.now p c.loop-processor.ends c.ends_in.result at (omega (arith, lt, few, long))
          (subst (λ xs. AreFreeChoiceEnds c.args.self xs c.ends_in.result) c.deref.ensures.value c.ends_in.ensures) c.loop-processor.invariant.ends;
      long = length-set c.loop-processor.ends p c.ends_in.result ∙ long;
    }

pub returns : goal.returns
returns c = λ p row at.
    let within = slice_get_within c.args.steps.now p row at in
    let over = c.loop-processor-test.false in
    c.loop-processor.invariant.ends p row (omega (arith, within, over)) at
