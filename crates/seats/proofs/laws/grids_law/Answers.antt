use Rattle.seats.proofs.Rounds.GridRounds.{grids_law}
use Rattle.seats.proofs.laws.grids_law.Goals as goal

pub returns : goal.returns
returns c = grids_law
