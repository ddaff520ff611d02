use Rattle.explore.proofs.PrefixRuns.Beginnings.{prefix_beginning_whole_done}
use Rattle.explore.proofs.prefixes.laws.prefix_done_law.Goals as goal

pub returns : goal.returns
returns c = prefix_beginning_whole_done
