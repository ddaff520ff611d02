-- The words that contracts name, passed on from one place. Declares nothing.
pub use Rattle.lrc_script.specs.Plan.{Plan, plan_sections, plan_of}
pub use Rattle.lrc_script.specs.Lawful.{AreLawfulSizes, IsLawfullyEven, IsLawful, instruction_address, plan_addresses, barriers, instruction_flag}
pub use Rattle.lrc_script.specs.Lawful.{is_barrier, instruction_lock}
pub use Rattle.lrc_script.specs.ScriptLines.{script_cluster_line, script_instruction_line, script_line_bytes, script_line_text, script_section_line}
pub use Rattle.lrc_script.specs.ScriptLines.{script_section_lines, script_show_line, script_line_space, script_line_spaced, text}
pub use Rattle.lrc_script.specs.ScriptFront.{Headed, IsScriptFrontLawful, IsScriptFrontHeaded, Nothing, Whole, Within}
pub use Rattle.lrc_script.specs.ScriptFaults.{HasNoLineFeed, IsScriptFault, IsScriptFaultUnevenAtLine, ScriptFaultSays}
pub use Rattle.lrc_script.specs.LineReading.{LineReadFails, LineReadGives, LineReadGoesTo, IsLineReadOff, IsOtherLineRead, line_read_after, line_read_after_numbers, are_line_read_sizes, line_read_shown}
pub use Rattle.lrc_script.specs.LineReading.{LineReadBeginsWithNumber, LineReadBeginsWithNoNumber, line_read_may_begin_number}
pub use Rattle.lrc_script.specs.LineReading.{line_read_few, line_read_first_section, line_read_front, line_read_word_has_bytes, line_read_cluster, line_read_as_instruction}
pub use Rattle.lrc_script.specs.LineReading.{is_read_line_due, is_line_read_past, line_read_keyword, line_read_next_section, line_read_number, line_read_numbers_after}
pub use Rattle.lrc_script.specs.LineReading.{parts_behind_in_read_line, parts_of_read_line, line_read_refusal, line_read_step, line_read_digit_sum, is_line_read_with, line_read_with_instruction}
pub use Rattle.lrc_script.specs.Laws.{ScriptMostBytesLaw}
