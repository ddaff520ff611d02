use Rattle.std.proofs.Common.{◌≡◌, replicate}
use Rattle.lockq.specs.LockQueues.{lock_queue_unheld}
use Rattle.lockq.proofs.lock_queues.Locks.new.Given as goal

abbrev pub invariant-loop : goal.invariant-loop
invariant-loop l = l.all.items ≡ replicate l.counter (lock_queue_unheld l.processors)
