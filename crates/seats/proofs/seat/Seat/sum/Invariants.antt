-- The words so far were loaded, and come to the sum.
use Rattle.std.proofs.Common.{◌≡◌, take}
use Rattle.seats.specs.Acting.{HasSummed}
use Rattle.seats.proofs.seat.Seat.sum.Given as goal

abbrev pub invariant-loop-address : goal.invariant-loop-address
invariant-loop-address g l = record {
  summed : HasSummed l.fn.self l.self (take l.address-index l.addresses) l.sum;
  awaits : l.self.awaits ≡ l.fn.self.awaits;
}
