use Rattle.explore.specs.UnrankedLocks.{AreTextAsks, AreTextAsksChained}
use Rattle.explore.proofs.TextAskPaths.{EndsTextAskPath}
use Rattle.explore.proofs.text.unranked_locks.lock_circle_from.Given as goal

abbrev pub invariant-loop : goal.invariant-loop
invariant-loop l = record {
  each : AreTextAsks l.steps l.path.items;
  chained : AreTextAsksChained l.path.items;
  ends : EndsTextAskPath l.path.items l.lock;
}
