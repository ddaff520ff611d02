use Rattle.std.proofs.Common.{◌≤◌, length}
use Rattle.test_memory.proofs.histories.Reading.{NoneFrom}
use Rattle.test_memory.proofs.histories.history.awaited_by.Given as goal

abbrev pub invariant-loop-left : goal.invariant-loop-left
invariant-loop-left l = record { none : NoneFrom l.history l.p l.left; within : l.left ≤ length l.history }

abbrev pub decreases-loop-left : goal.decreases-loop-left
decreases-loop-left l = l.left
