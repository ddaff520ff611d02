use Rattle.std.proofs.Common.{◌-◌}
use Rattle.lrc_commands.specs.TraceCommand.{IsTraceCommandReadSoFar}
use Rattle.lrc_commands.proofs.checking.check_command_reads_pieces.Given as goal

-- what the source had is what was read and what it has left
abbrev pub invariant-loop-total : goal.invariant-loop-total
invariant-loop-total g l =
    IsTraceCommandReadSoFar (g.S.Read.remaining l.fn.source) (g.S.Read.remaining l.source) l.reading

abbrev pub decreases-loop-total : goal.decreases-loop-total
decreases-loop-total g l = 134217856 - l.total
