use Rattle.explore.proofs.PrefixRuns.Beginnings.{prefix_beginning_next}
use Rattle.explore.proofs.prefixes.laws.prefix_next_law.Goals as goal

pub returns : goal.returns
returns c = prefix_beginning_next
