use Rattle.seats.proofs.GuardedDeeds.{guarded_deeds_law}
use Rattle.seats.proofs.laws.guarded_law.Goals as goal

pub returns : goal.returns
returns c = guarded_deeds_law
