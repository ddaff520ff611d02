use Rattle.std.proofs.Common.{map, take}
use Rattle.std.specs.List.{flat_map}
use Rattle.std.specs.Fmt.{HasWritten, IsPlainFormatter}
use Rattle.lrc_script.specs.ScriptLines.{script_line_text, script_section_lines}
use Rattle.lrc_script.proofs.display.ScriptDisplay.fmt.Given as goal

abbrev pub invariant-loop-k : goal.invariant-loop-k
invariant-loop-k g l =
    IsPlainFormatter l.initial.f
    → HasWritten g.W.Write.write_str_gives l.initial.f
    (flat_map script_line_text (script_section_lines 0 (map (λ section. section.items) (take l.k l.section-items))))
    l.f
