use Rattle.std.proofs.Common.{length}
use Rattle.lrc_script.specs.ScriptFaults.{IsAtScriptLine}
use Rattle.lrc_script.specs.LineReading.{line_read_front}
use Rattle.lrc_script.proofs.script.parse.Given as goal

abbrev pub invariant-loop-line : goal.invariant-loop-line
invariant-loop-line l = IsAtScriptLine l.fn.bytes l.number (line_read_front l.progress) l.rest

abbrev pub decreases-loop-line : goal.decreases-loop-line
decreases-loop-line l = length l.rest
