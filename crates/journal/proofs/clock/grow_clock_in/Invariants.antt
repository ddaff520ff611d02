use Rattle.std.proofs.Common.{◌≡◌, ◌+◌, ◌-◌, ℕ}
use Rattle.std.specs.VecDeque.{deque_len}
use Rattle.journal.specs.ClockEntry.{entry}
use Rattle.journal.proofs.clock.grow_clock_in.Given as goal

abbrev pub invariant-loop-clocks : goal.invariant-loop-clocks
invariant-loop-clocks l = (n q : ℕ) → entry l.clocks.items n q ≡ entry l.fn.clocks.items n q

abbrev pub decreases-loop-clocks : goal.decreases-loop-clocks
decreases-loop-clocks l = (l.place + 1) - deque_len l.clocks
