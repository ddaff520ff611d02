-- There is one owner.
use Rattle.std.proofs.Common.{◌≡◌, length}
use Rattle.test_lrc.proofs.intervals.are_found.Given as goal

abbrev pub invariant-loop-turn : goal.invariant-loop-turn
invariant-loop-turn l = length l.closed.first ≡ 1
