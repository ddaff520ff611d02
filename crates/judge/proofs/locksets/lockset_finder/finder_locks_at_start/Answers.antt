use Rattle.std.proofs.Common.{[], subst, sym, arith}
use Rattle.judge.specs.Locksets.KeptLocksets.{AreKeptLocksetsOfAll}
use Rattle.judge.proofs.locksets.TellingLocksets.{telling_locksets_held_push}
use Rattle.judge.proofs.locksets.lockset_finder.finder_locks_at_start.Goals as goal

pub loop-preserved : goal.loop-preserved
loop-preserved c = record {
  long = (let len = c.in_ok-push.ensures.len in let long = c.loop.invariant.long in omega arith);
  none = subst (AreKeptLocksetsOfAll []) (sym c.in_ok-push.ensures.items)
      (telling_locksets_held_push c.loop.held.items c.none.result c.none.ensures c.loop.invariant.none);
}
