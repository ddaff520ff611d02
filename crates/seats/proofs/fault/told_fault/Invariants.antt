-- The fault to tell of the processors so far.
use Rattle.std.proofs.Common.{take}
use Rattle.seats.specs.ToldFaults.{IsToldFault}
use Rattle.seats.proofs.fault.told_fault.Given as goal

abbrev pub invariant-loop-processor : goal.invariant-loop-processor
invariant-loop-processor g l = IsToldFault (take l.processor l.ends) l.told
