use Rattle.std.proofs.Common.{arith}
use Rattle.std.proofs.lemmas.Grind.{elements}
use Rattle.journal.proofs.journal.Journal.events.Goals as goal

pub returns-clause-in_range : goal.returns-clause-in_range
returns-clause-in_range c = grind (arith, elements)
