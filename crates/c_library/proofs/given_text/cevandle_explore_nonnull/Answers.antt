use Rattle.std.proofs.Common.{subst}
use Rattle.c_library.specs.declared.call_fault.CallFault.TheVariants.{BadScript, NoMemory}
use Rattle.c_library.specs.GivenTexts.{IsGivenTextFault, IsGivenTextUnexplored}
use Rattle.c_library.proofs.given_text.cevandle_explore_nonnull.Goals as goal

pub returns-in-Err-NoScript-clause-refused : goal.returns-in-Err-NoScript-clause-refused
returns-in-Err-NoScript-clause-refused c = λ _.
    let arm = c.in-Err-NoScript in
    let due : IsGivenTextFault c.args.script.now arm.line arm.why =
    subst (IsGivenTextUnexplored c.args.script.now) arm.field-0-is arm.ensures.refused in
    record { fault = BadScript; is = c.code.ensures; due = due.none }

pub returns-in-Err-NoMemory-clause-refused : goal.returns-in-Err-NoMemory-clause-refused
returns-in-Err-NoMemory-clause-refused c = λ _.
    let arm = c.in-Err-NoMemory in
    record {
      fault = NoMemory;
      is = c.code-in-Err-NoMemory.ensures;
      due = subst (IsGivenTextUnexplored c.args.script.now) arm.field-0-is arm.ensures.refused;
    }
