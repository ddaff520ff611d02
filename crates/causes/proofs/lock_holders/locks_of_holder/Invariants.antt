use Rattle.journal.specs.WellFormed.{Holds}
use Rattle.causes.specs.FinalWaits.{AreThoseInFinalWait}
use Rattle.causes.proofs.lock_holders.locks_of_holder.Given as goal

abbrev pub invariant-loop-lock : goal.invariant-loop-lock
invariant-loop-lock l = AreThoseInFinalWait (Holds l.events l.by) l.lock l.held.items
