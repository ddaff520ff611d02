use Rattle.std.proofs.Common.{List}
use Rattle.journal.specs.declared.event.Event.{Event}
use Rattle.judge.specs.Locksets.Pairs.{PairsTellUnprotected}
use Rattle.judge.specs.Locksets.KeptLocksets.{IsLocksetFinderOf}
use Rattle.judge.proofs.locksets.lockset_finder.LocksetFinder.found.Given as goal

abbrev pub invariant-loop-address : goal.invariant-loop-address
invariant-loop-address l =
    (j : List Event) → IsLocksetFinderOf j l.self → PairsTellUnprotected l.asked j l.address l.found.items
