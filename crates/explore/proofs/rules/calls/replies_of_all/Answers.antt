use Rattle.std.proofs.Common.{arith}
use Rattle.std.proofs.lemmas.Grind.{elements}
use Rattle.explore.proofs.rules.calls.replies_of_all.Goals as goal

pub replies_of-requires : goal.replies_of-requires
replies_of-requires c = grind (arith, elements)

pub loop-processor-preserved : goal.loop-processor-preserved
loop-processor-preserved c = grind (arith, elements)
