use Rattle.std.proofs.Common.{arith}
use Rattle.std.proofs.lemmas.Grind.{elements}
use Rattle.explore.proofs.prefixes.script_call.script_calls_of_all.Goals as goal

pub loop-processor-preserved : goal.loop-processor-preserved
loop-processor-preserved c = grind (arith, elements)

pub returns : goal.returns
returns c = grind (arith, elements)
