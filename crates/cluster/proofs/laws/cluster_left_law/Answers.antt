use Rattle.cluster.proofs.CuttingVisits.{cutting_visits_left_law}
use Rattle.cluster.proofs.laws.cluster_left_law.Goals as goal

pub returns : goal.returns
returns c = cutting_visits_left_law
