use Rattle.seats.proofs.StillSitting.{still_sitting_at}
use Rattle.seats.proofs.seat.Seat.vacate.Goals as goal

pub returns-clause-sits : goal.returns-clause-sits
returns-clause-sits g c = still_sitting_at c.self.invariant.0

pub returns-clause-kept : goal.returns-clause-kept
returns-clause-kept g c = c.self.invariant.2.keeps
