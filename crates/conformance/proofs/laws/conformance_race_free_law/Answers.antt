use Rattle.conformance.proofs.Recomputing.Recomputed.{recomputed_race_free_law}
use Rattle.conformance.proofs.laws.conformance_race_free_law.Goals as goal

pub returns : goal.returns
returns c = recomputed_race_free_law
