use Rattle.std.proofs.Common.{sym, ◌∙◌}
use Rattle.lrc_script.proofs.Reading.InstructionStep.{instruction_step_read}
use Rattle.lrc_script.proofs.read_so_far.ReadSoFar.step.Goals as goal

pub returns-in-Some-clause-ok : goal.returns-in-Some-clause-ok
returns-in-Some-clause-ok c =
    rw (c.in-Within.is) (rw (instruction_step_read _ _ c.args.keyword c.args.numbers.now c.in-Some.instruction
    (sym c.instruction.ensures ∙ c.in-Some.is))
    c.add.ensures.ok)

pub returns-in-Some-clause-err : goal.returns-in-Some-clause-err
returns-in-Some-clause-err c =
    rw (c.in-Within.is) (rw (instruction_step_read _ _ c.args.keyword c.args.numbers.now c.in-Some.instruction
    (sym c.instruction.ensures ∙ c.in-Some.is))
    c.add.ensures.err)
