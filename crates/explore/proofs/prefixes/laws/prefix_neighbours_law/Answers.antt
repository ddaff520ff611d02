use Rattle.explore.proofs.PrefixRuns.Neighbours.NoNeighbours.{no_neighbours_law}
use Rattle.explore.proofs.prefixes.laws.prefix_neighbours_law.Goals as goal

pub returns : goal.returns
returns c = no_neighbours_law
