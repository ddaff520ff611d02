use Rattle.explore.proofs.PrefixRuns.Beginnings.{prefix_beginning_empty, prefix_beginning_front}
use Rattle.explore.proofs.prefixes.laws.prefix_front_law.Goals as goal

pub returns-clause-empty : goal.returns-clause-empty
returns-clause-empty c = prefix_beginning_empty

pub returns-clause-front : goal.returns-clause-front
returns-clause-front c = prefix_beginning_front
