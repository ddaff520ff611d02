use Rattle.std.proofs.Common.{◌≡◌}
use Rattle.seats.specs.SeatCalls.{IsSeatCallUndone}
use Rattle.seats.proofs.seat_closings.take.Given as goal

abbrev pub invariant-loop : goal.invariant-loop
invariant-loop g l = record {
  own : l.processor.lock ≡ l.cluster.lock;
  undone : IsSeatCallUndone l.fn.processor l.processor;
}
