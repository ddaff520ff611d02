use Rattle.std.proofs.Common.{arith}
use Rattle.std.proofs.lemmas.Grind.{elements}
use Rattle.book.proofs.done_waiting.is_done_waiting.Goals as goal

pub returns-else-eq : goal.returns-else-eq
returns-else-eq c = grind (arith, elements)

pub returns-then-eq : goal.returns-then-eq
returns-then-eq c = grind (arith, elements)
