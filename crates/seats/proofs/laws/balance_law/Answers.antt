use Rattle.seats.proofs.BalancedTenures.{balanced_tenure_law as balanced}
use Rattle.seats.proofs.laws.balance_law.Goals as goal

pub returns : goal.returns
returns c = balanced
