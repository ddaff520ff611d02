use Rattle.std.proofs.Common.{length}
use Rattle.lrc_check.proofs.traces.reader.told_line_behind_first.Given as goal

abbrev pub decreases-loop-line : goal.decreases-loop-line
decreases-loop-line l = length l.rest
