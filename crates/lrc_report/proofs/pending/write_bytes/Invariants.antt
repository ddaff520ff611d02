use Rattle.std.proofs.Common.{length}
use Rattle.lrc_report.proofs.AppendsThrough.{AppendsThroughSoFar}
use Rattle.lrc_report.proofs.pending.write_bytes.Given as goal

abbrev pub invariant-loop-rest : goal.invariant-loop-rest
invariant-loop-rest g l = AppendsThroughSoFar (g.W.Write.contents l.fn.out) (g.W.Write.contents l.out) l.bytes l.rest

abbrev pub decreases-loop-rest : goal.decreases-loop-rest
decreases-loop-rest g l = length l.rest
