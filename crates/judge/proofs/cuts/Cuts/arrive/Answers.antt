use Rattle.std.proofs.Common.{arith}
use Rattle.std.proofs.lemmas.Grind.{elements}
use Rattle.judge.proofs.cuts.Cuts.arrive.Goals as goal

pub returns-clause-arrived : goal.returns-clause-arrived
returns-clause-arrived c = grind (arith, elements)
