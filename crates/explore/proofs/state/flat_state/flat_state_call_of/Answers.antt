use Rattle.std.proofs.Common.{arith}
use Rattle.std.proofs.lemmas.Grind.{elements}
use Rattle.explore.proofs.state.flat_state.flat_state_call_of.Goals as goal

pub returns-in-Call-Load : goal.returns-in-Call-Load
returns-in-Call-Load c = grind (arith, elements)
