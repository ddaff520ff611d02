use Rattle.std.proofs.Common.{rules, ◌≡◌, Some, Err, length, refl, sym, ap, ◌∙◌, arith}
use Rattle.std.proofs.lemmas.Grind.{common_steps}
use Rattle.std.proofs.lemmas.Option.{slice_get_within, slice_get_read, same_Some}
use Rattle.lrc_run.proofs.Failing.{failing_none_more, failing_first_so}
use Rattle.lrc_run.proofs.run_faults.first_run_fault.Goals as goal
use Rattle.lrc_run.proofs.run_faults.first_run_fault.Goals.{in-Err+else-is_stuck_run_fault-stuck, in_default}

pub returns-then-is_stuck_run_fault-stuck-clause-some : goal.returns-then-is_stuck_run_fault-stuck-clause-some
returns-then-is_stuck_run_fault-stuck-clause-some g c =
    let xs = c.args.outcomes.now in
    let k = c.loop-processor.processor in
    let at = slice_get_read xs (length xs) k c.index-outcomes-processor.result refl c.loop-processor-test.true
    c.index-outcomes-processor.is in
    let so : c.is_stuck_run_fault.result ≡ c.args.stuck = search rules in
    failing_first_so xs c.args.stuck k c.in-Err.cause c.loop-processor.invariant (at ∙ ap Some c.in-Err.is)
    (sym c.is_stuck_run_fault.ensures ∙ so)

pub loop-processor-preserved : goal.loop-processor-preserved
loop-processor-preserved g c =
    let xs = c.args.outcomes.now in
    let k = c.loop-processor.processor in
    let at = slice_get_read xs (length xs) k c.index-outcomes-processor.result refl c.loop-processor-test.true
    c.index-outcomes-processor.is in
    failing_none_more xs c.args.stuck k c.loop-processor.invariant (λ cause failed so.
    let same : c.index-outcomes-processor.result ≡ Err cause = same_Some _ _ (sym at ∙ failed) in
    elim c.match-outcomes-processor.branch [
      | in-Err+else-is_stuck_run_fault-stuck w ↦ grind (arith, common_steps, same, so)
      | in_default w ↦ grind (arith, common_steps, same)
    ])

pub returns-clause-none : goal.returns-clause-none
returns-clause-none g c = λ p cause failed.
    c.loop-processor.invariant p cause (let within = slice_get_within c.args.outcomes.now p _ failed in
    omega arith) failed
