-- The words so far were loaded.
use Rattle.std.proofs.Common.{◌≡◌, ◌≤◌, ◌+◌, ◌-◌, vec_capacity, vec_len}
use Rattle.seats.specs.Acting.{HasActed, acting_loads_from}
use Rattle.seats.proofs.seat.Seat.words.Given as goal

abbrev pub invariant-loop-address : goal.invariant-loop-address
invariant-loop-address g l = record {
  acted : HasActed l.fn.self l.self (acting_loads_from l.from l.words.items);
  long : vec_len l.words + l.from ≡ l.address;
  room : l.to - l.from ≤ vec_capacity l.words;
  awaits : l.self.awaits ≡ l.fn.self.awaits;
}
