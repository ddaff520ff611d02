use Rattle.seats.proofs.Rounds.GridRounds.{grid_round_loads_read}
use Rattle.seats.proofs.grids.Grids.load.Goals as goal

pub returns-clause-ok : goal.returns-clause-ok
returns-clause-ok g c = grid_round_loads_read c.args.self.cells c.args.round c.read.ensures c.requires.within c.in_ok-word.ensures.ok
