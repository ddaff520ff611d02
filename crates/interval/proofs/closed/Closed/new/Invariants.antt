use Rattle.interval.proofs.Queues.Empty.{AreEmpty}
use Rattle.interval.proofs.closed.Closed.new.Given as goal

abbrev pub invariant-loop : goal.invariant-loop
invariant-loop l = AreEmpty l.counter l.queues.items
