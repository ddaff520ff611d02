use Rattle.causes.specs.FinalWaits.{AreThoseInFinalWait, FinalWaitForAbsent}
use Rattle.causes.proofs.waits_at_end.final_wait_absent.Given as goal

abbrev pub invariant-loop-processor : goal.invariant-loop-processor
invariant-loop-processor l = AreThoseInFinalWait (FinalWaitForAbsent l.events l.by) l.processor l.absent.items
