use Rattle.std.proofs.Common.{arith}
use Rattle.std.proofs.lemmas.Grind.{elements}
use Rattle.causes.proofs.source.has_source_place.Goals as goal

pub returns-then-other-place : goal.returns-then-other-place
returns-then-other-place c = grind (arith, elements)

pub loop-other-preserved : goal.loop-other-preserved
loop-other-preserved c = grind (arith, elements)

pub returns : goal.returns
returns c = grind (arith, elements)
