use Rattle.std.proofs.Common.{arith}
use Rattle.std.proofs.lemmas.Grind.{common_steps, elements}
use Rattle.lrc_script.proofs.read_so_far.show.Goals as goal

pub returns : goal.returns
returns c = grind (arith, common_steps)

pub returns-then-numbers-gt-MOST_SHOWN : goal.returns-then-numbers-gt-MOST_SHOWN
returns-then-numbers-gt-MOST_SHOWN c = grind (arith, elements)
