use Rattle.conformance.proofs.Recomputing.Recomputed.{recomputed_law}
use Rattle.conformance.proofs.Recomputing.AnsweredAlike.{answered_alike_only_law}
use Rattle.conformance.proofs.laws.conformance_recomputed_law.Goals as goal

pub returns-clause-exists : goal.returns-clause-exists
returns-clause-exists c = recomputed_law

pub returns-clause-only : goal.returns-clause-only
returns-clause-only c = answered_alike_only_law
