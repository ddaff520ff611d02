use Rattle.explore.proofs.PrefixRuns.Beginnings.{prefix_beginning_never_races}
use Rattle.explore.proofs.prefixes.laws.prefix_never_races_law.Goals as goal

pub returns : goal.returns
returns c = prefix_beginning_never_races
