use Rattle.seats.proofs.KeptReads.{kept_reads_law as kept}
use Rattle.seats.proofs.laws.kept_reads_law.Goals as goal

pub returns : goal.returns
returns g c = kept g.K.LockKeeps.fact
