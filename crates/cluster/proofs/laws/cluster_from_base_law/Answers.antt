use Rattle.cluster.proofs.CuttingVisits.{cutting_visits_from_base}
use Rattle.cluster.proofs.laws.cluster_from_base_law.Goals as goal

pub returns : goal.returns
returns c = cutting_visits_from_base
