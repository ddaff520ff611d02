use Rattle.std.proofs.Common.{arith}
use Rattle.std.proofs.lemmas.Grind.{common_steps}
use Rattle.lrc_check.proofs.traces.trace_event.add.Goals as goal

pub returns-in-Some-trace_range_fault_of_event-clause-fault : goal.returns-in-Some-trace_range_fault_of_event-clause-fault
returns-in-Some-trace_range_fault_of_event-clause-fault c = grind (arith, common_steps)
