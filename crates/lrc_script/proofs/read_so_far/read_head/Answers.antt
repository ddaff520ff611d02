use Rattle.std.proofs.Common.{arith}
use Rattle.std.proofs.lemmas.Grind.{elements}
use Rattle.lrc_script.proofs.read_so_far.read_head.Goals as goal

pub returns : goal.returns
returns c = grind (arith, elements)

pub returns-then-not-are_sizes : goal.returns-then-not-are_sizes
returns-then-not-are_sizes c = grind (arith, elements)
