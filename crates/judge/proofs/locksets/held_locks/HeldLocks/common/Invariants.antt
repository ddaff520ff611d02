use Rattle.std.proofs.Common.{◌≡◌, ◌<◌, ℕ, Some, slice_get}
use Rattle.judge.specs.Locksets.Held.{HasHeldLock}
use Rattle.judge.proofs.locksets.held_locks.HeldLocks.common.Given as goal

abbrev pub invariant-loop-lock : goal.invariant-loop-lock
invariant-loop-lock l = (k m : ℕ) → k < l.lock-index → slice_get l.self.locks.items k ≡ Some m → ¬ HasHeldLock l.other m
