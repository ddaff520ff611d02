use Rattle.lrc_run.proofs.Failing.{NoneFailingBelow}
use Rattle.lrc_run.proofs.run_faults.first_run_fault.Given as goal

abbrev pub invariant-loop-processor : goal.invariant-loop-processor
invariant-loop-processor g l = NoneFailingBelow l.outcomes l.stuck l.processor
