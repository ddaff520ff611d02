use Rattle.std.proofs.Common.{map, take}
use Rattle.std.specs.List.{flat_map}
use Rattle.std.specs.Fmt.{HasWritten, IsPlainFormatter}
use Rattle.lrc_script.specs.ScriptLines.{script_line_text, script_instruction_line}
use Rattle.lrc_script.proofs.display.display_instructions.Given as goal

abbrev pub invariant-loop-instruction : goal.invariant-loop-instruction
invariant-loop-instruction g l =
    IsPlainFormatter l.initial.f
    → HasWritten g.W.Write.write_str_gives l.initial.f
    (flat_map script_line_text (map script_instruction_line (take l.instruction-index l.instructions))) l.f
