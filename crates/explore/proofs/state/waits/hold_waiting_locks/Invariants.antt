use Rattle.std.proofs.Common.{◌≡◌, drop}
use Rattle.explore.specs.KeptWaiting.{kept_waiting_holders}
use Rattle.explore.proofs.state.waits.hold_waiting_locks.Given as goal

abbrev pub invariant-loop-lock : goal.invariant-loop-lock
invariant-loop-lock l =
    kept_waiting_holders l.processor l.holders (drop l.lock-index l.locks) ≡ kept_waiting_holders l.processor l.fn.holders l.locks
