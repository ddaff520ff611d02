use Rattle.std.proofs.Common.{arith}
use Rattle.std.proofs.lemmas.Grind.{elements, common_steps}
use Rattle.book.proofs.empty.empty_places.Goals as goal

pub returns-in_err-push : goal.returns-in_err-push
returns-in_err-push g c = grind (arith, elements)

pub loop-preserved : goal.loop-preserved
loop-preserved g c = grind (arith, common_steps)

pub returns : goal.returns
returns c = grind (arith, elements)
