use Rattle.std.proofs.Common.{◌≡◌, inr, ◌∙◌, sym, arith}
use Rattle.std.proofs.lemmas.Grind.{common_steps}
use Rattle.book.specs.declared.refused.Refused.TheVariants.{NoMemory}
use Rattle.conformance.specs.declared.cause.Cause.TheVariants.{Refused, Stuck}
use Rattle.lrc_run.proofs.run_faults.all_or_run_fault.Goals as goal

pub returns-in-Err-clause-err : goal.returns-in-Err-clause-err
returns-in-Err-clause-err g c =
    let told : c.from.result ≡ Refused NoMemory = c.from.ensures in
    inr (rw c.as_slice.ensures.value at c.in_default.ensures.none, λ stuck. let no : Refused NoMemory ≡ Stuck = sym told ∙ stuck in cc)

pub returns-in-Some-clause-err : goal.returns-in-Some-clause-err
returns-in-Some-clause-err g c = grind (arith, common_steps)
