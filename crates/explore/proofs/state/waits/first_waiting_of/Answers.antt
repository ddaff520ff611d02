use Rattle.std.proofs.Common.{arith}
use Rattle.std.proofs.lemmas.Grind.{elements}
use Rattle.explore.proofs.state.waits.first_waiting_of.Goals as goal

pub returns-then-eq : goal.returns-then-eq
returns-then-eq c = grind (arith, elements)

pub loop-processor-preserved : goal.loop-processor-preserved
loop-processor-preserved c = grind (arith, elements)

pub returns : goal.returns
returns c = grind (arith, elements)
