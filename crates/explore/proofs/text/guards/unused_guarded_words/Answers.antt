use Rattle.std.proofs.Common.{arith}
use Rattle.std.proofs.lemmas.Grind.{elements}
use Rattle.explore.proofs.text.guards.unused_guarded_words.Goals as goal

pub loop-preserved : goal.loop-preserved
loop-preserved c = grind (arith, elements)
