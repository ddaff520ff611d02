use Rattle.std.proofs.Common.{arith}
use Rattle.std.proofs.lemmas.Grind.{common_steps, elements}
use Rattle.lrc_script.proofs.display.display_instructions.Goals as goal

pub loop-instruction-preserved : goal.loop-instruction-preserved
loop-instruction-preserved c = grind (arith, common_steps)

pub returns : goal.returns
returns c = grind (arith, elements)
