use Rattle.std.proofs.Common.{arith}
use Rattle.std.proofs.lemmas.Grind.{elements}
use Rattle.judge.proofs.locksets.held_locks.HeldLocks.common.Goals as goal

pub returns-then-has-clause-some : goal.returns-then-has-clause-some
returns-then-has-clause-some c = grind (arith, elements)

pub loop-lock-preserved : goal.loop-lock-preserved
loop-lock-preserved c = grind (arith, elements)

pub returns-clause-none : goal.returns-clause-none
returns-clause-none c = grind (arith, elements)
