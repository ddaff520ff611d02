use Rattle.std.proofs.Common.{◌++◌, map, arith, rules}
use Rattle.std.specs.List.{flat_map}
use Rattle.std.specs.Fmt.{HasWritten}
use Rattle.std.proofs.Output.{has_written_append, has_written_of_eq}
use Rattle.std.proofs.lemmas.Grind.{common_steps}
use Rattle.lrc_script.specs.ScriptLines.{script_line_text, script_section_line, script_instruction_line}
use Rattle.lrc_script.proofs.SectionTexts.{section_texts-more}
use Rattle.lrc_script.proofs.display.ScriptDisplay.fmt.Goals as goal

pub loop-k-preserved : goal.loop-k-preserved
loop-k-preserved g c = λ p.
    let before = c.loop-k.invariant p in
    let lines : HasWritten g.W.Write.write_str_gives c.loop-k.f
    (script_line_text (script_section_line c.loop-k.k) ++ flat_map script_line_text (map script_instruction_line c.section-item.result.items))
    c.display_section.new.f =
    search rules in
    has_written_of_eq _ _ _ _ _
    (section_texts-more c.deref-section-items.result.now c.loop-k.k c.section-item.result (omega arith)
    c.section-item.is) (has_written_append _ _ _ _ _ _ before lines)

pub returns-clause-writes : goal.returns-clause-writes
returns-clause-writes g c = grind (arith, common_steps)
