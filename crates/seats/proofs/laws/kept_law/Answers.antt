use Rattle.seats.proofs.KeptFacts.{kept_law}
use Rattle.seats.proofs.laws.kept_law.Goals as goal

pub returns : goal.returns
returns g c = kept_law g.K.LockKeeps.fact
