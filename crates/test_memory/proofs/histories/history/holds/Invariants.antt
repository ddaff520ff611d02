use Rattle.std.proofs.Common.{◌↔◌, IsTrue, take}
use Rattle.journal.specs.WellFormed.{Holds}
use Rattle.test_memory.proofs.histories.history.holds.Given as goal

abbrev pub invariant-loop-event : goal.invariant-loop-event
invariant-loop-event l = IsTrue l.held ↔ Holds (take l.event-index l.history) l.p l.lock
