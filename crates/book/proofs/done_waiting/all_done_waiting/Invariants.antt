-- Of those before p just those are found for whom it has come.
use Rattle.book.proofs.Calling.WaitingPlaces.{AreWaitingPlacesFound, IsWaitingPlaceWithinMost}
use Rattle.book.proofs.done_waiting.all_done_waiting.Given as goal

abbrev pub invariant-loop-p : goal.invariant-loop-p
invariant-loop-p l = AreWaitingPlacesFound (IsWaitingPlaceWithinMost l.awaits l.flags l.mail l.awaited) l.p l.waiters
