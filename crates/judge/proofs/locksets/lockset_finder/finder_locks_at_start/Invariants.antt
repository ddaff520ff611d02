use Rattle.std.proofs.Common.{◌≡◌, [], vec_len}
use Rattle.judge.specs.Locksets.KeptLocksets.{AreKeptLocksetsOfAll}
use Rattle.judge.proofs.locksets.lockset_finder.finder_locks_at_start.Given as goal

abbrev pub invariant-loop : goal.invariant-loop
invariant-loop l = record {
  long : vec_len l.held ≡ l.counter;
  none : AreKeptLocksetsOfAll [] l.held.items;
}
