use Rattle.judge.proofs.OwedStays.{owed_stays_law}
use Rattle.judge.proofs.laws.owed_stays_law.Goals as goal

pub returns : goal.returns
returns c = owed_stays_law
