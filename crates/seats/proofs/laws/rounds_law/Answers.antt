use Rattle.seats.proofs.Rounds.RoundHistories.{rounds_law}
use Rattle.seats.proofs.laws.rounds_law.Goals as goal

pub returns : goal.returns
returns c = rounds_law
