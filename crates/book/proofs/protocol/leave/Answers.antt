use Rattle.std.proofs.Common.{inl, inr}
use Rattle.book.proofs.protocol.leave.Goals as goal

pub depart-requires : goal.depart-requires
depart-requires c = c.requires c.in-Departure.is

pub returns-in-Departure : goal.returns-in-Departure
returns-in-Departure c = rw c.in-Departure.is c.depart.ensures.barrier

pub returns-in-Grant : goal.returns-in-Grant
returns-in-Grant c = elim c.in-Grant.is [ inl lock ↦ rw lock.1 | inr flag ↦ rw flag.1 ]
