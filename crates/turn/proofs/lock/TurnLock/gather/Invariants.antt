use Rattle.std.proofs.Common.{vec_len}
use Rattle.turn.proofs.DealingAndGatheringChairs.{GatheringChairs}
use Rattle.turn.proofs.lock.TurnLock.gather.Given as goal

abbrev pub invariant-loop-chair : goal.invariant-loop-chair
invariant-loop-chair g l = GatheringChairs l.self.table.shared.table_id g.row.ENTRIES l.fn.chairs.items l.whole l.chairs.items

abbrev pub decreases-loop-chair : goal.decreases-loop-chair
decreases-loop-chair g l = vec_len l.chairs
