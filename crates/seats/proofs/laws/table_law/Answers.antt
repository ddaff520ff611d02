use Rattle.seats.proofs.GuardedDeeds.{guarded_deeds_table_law}
use Rattle.seats.proofs.laws.table_law.Goals as goal

pub returns : goal.returns
returns c = guarded_deeds_table_law
