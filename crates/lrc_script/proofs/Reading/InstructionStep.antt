-- A line's keyword, by cases.
use Rattle.std.proofs.Common.{◌≡◌, ℕ, List, Some, ap}
use Rattle.lrc_script.specs.declared.script.Instruction.{Instruction}
use Rattle.lrc_script.specs.declared.line.LineKeyword.{LineKeyword}
use Rattle.lrc_script.specs.declared.line.LineKeyword.TheVariants as keyword
use Rattle.lrc_script.specs.Plan.{Plan}
use Rattle.lrc_script.specs.ScriptFront.{Within}
use Rattle.lrc_script.specs.LineReading.{line_read_step, line_read_with_instruction, line_read_as_instruction}

-- within a section an instruction's keyword and numbers are read as that instruction
pub instruction_step_read : (s : Plan) (is : List Instruction) (k : LineKeyword) (ns : List ℕ) (i : Instruction)
    → line_read_as_instruction k ns ≡ Some i → line_read_step (Within s is) k ns ≡ line_read_with_instruction s is (Some i)
unfolding line_read_step
instruction_step_read s is keyword.Section ns i e = absurd cc
instruction_step_read s is keyword.Show ns i e = absurd cc
instruction_step_read s is keyword.Cluster ns i e = ap (line_read_with_instruction s is) e
instruction_step_read s is keyword.Load ns i e = ap (line_read_with_instruction s is) e
instruction_step_read s is keyword.Store ns i e = ap (line_read_with_instruction s is) e
instruction_step_read s is keyword.Add ns i e = ap (line_read_with_instruction s is) e
instruction_step_read s is keyword.Acquire ns i e = ap (line_read_with_instruction s is) e
instruction_step_read s is keyword.Release ns i e = ap (line_read_with_instruction s is) e
instruction_step_read s is keyword.Barrier ns i e = ap (line_read_with_instruction s is) e
instruction_step_read s is keyword.Set ns i e = ap (line_read_with_instruction s is) e
instruction_step_read s is keyword.Await ns i e = ap (line_read_with_instruction s is) e
instruction_step_read s is keyword.Cut ns i e = ap (line_read_with_instruction s is) e
