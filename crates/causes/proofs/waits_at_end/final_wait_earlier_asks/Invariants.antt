use Rattle.causes.specs.FinalWaits.{AreThoseInFinalWait, FinalWaitAsksBefore}
use Rattle.causes.proofs.waits_at_end.final_wait_earlier_asks.Given as goal

abbrev pub invariant-loop-processor : goal.invariant-loop-processor
invariant-loop-processor l = AreThoseInFinalWait (FinalWaitAsksBefore l.events l.lock l.place) l.processor l.earlier.items
