use Rattle.std.proofs.lemmas.Grind.{common_steps, elements}
use Rattle.std.proofs.Common.{arith}
use Rattle.cluster.proofs.processor.Processor.admit_fetch.Goals as goal

pub returns-in_default : goal.returns-in_default
returns-in_default g c = grind (arith, common_steps)

pub returns-in_err-admit_event : goal.returns-in_err-admit_event
returns-in_err-admit_event g c = grind (arith, common_steps)

pub returns : goal.returns
returns g c = grind (arith, elements)

pub returns-then-is_valid : goal.returns-then-is_valid
returns-then-is_valid g c = grind (arith, elements)
