use Rattle.judge.proofs.AsksStoodFor.{asks_stood_for_law}
use Rattle.judge.proofs.laws.lax_ask_law.Goals as goal

pub returns : goal.returns
returns c = asks_stood_for_law
