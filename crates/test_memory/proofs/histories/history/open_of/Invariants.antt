use Rattle.std.proofs.Common.{◌≡◌, take}
use Rattle.journal.specs.IntervalContents.{open_interval_contents}
use Rattle.test_memory.proofs.histories.history.open_of.Given as goal

abbrev pub invariant-loop-event : goal.invariant-loop-event
invariant-loop-event l = l.events.items ≡ open_interval_contents (take l.event-index l.history) l.p
