use Rattle.cluster.proofs.LeavingCalls.{leaving_calls_seen_law}
use Rattle.cluster.proofs.laws.cluster_seen_law.Goals as goal

pub returns : goal.returns
returns c = leaving_calls_seen_law
