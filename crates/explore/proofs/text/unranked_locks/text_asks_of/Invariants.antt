use Rattle.explore.specs.UnrankedLocks.{AreTextAsks}
use Rattle.explore.proofs.text.unranked_locks.text_asks_of.Given as goal

abbrev pub invariant-loop-processor : goal.invariant-loop-processor
invariant-loop-processor l = AreTextAsks l.steps l.asks.items
