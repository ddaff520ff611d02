use Rattle.std.proofs.Common.{sym, subst}
use Rattle.seats.specs.KeptLayout.{HasKeptSeatLayout}
use Rattle.seats.proofs.KeptSeats.{kept_seat_new}
use Rattle.seats.proofs.seat.Seat.new.Goals as goal

pub invariant_of-result : goal.invariant_of-result
invariant_of-result g c = (
  c.requires.sits,
  c.requires.layout,
  subst (λ m. HasKeptSeatLayout g.S.Sitting.at 0 m) (sym c.requires.new) (kept_seat_new g.S.Sitting.at),
)
