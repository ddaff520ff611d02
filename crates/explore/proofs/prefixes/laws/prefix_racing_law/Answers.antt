use Rattle.explore.proofs.PrefixRuns.Neighbours.Racing.{neighbour_racing_law}
use Rattle.explore.proofs.prefixes.laws.prefix_racing_law.Goals as goal

pub returns : goal.returns
returns c = neighbour_racing_law
