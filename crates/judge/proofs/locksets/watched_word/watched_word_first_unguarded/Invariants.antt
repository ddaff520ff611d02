use Rattle.std.proofs.Common.{◌≡◌, ◌<◌, ℕ, Some, slice_get, slice_index}
use Rattle.judge.specs.declared.locksets.watched_word.LockedAccess.{LockedAccess}
use Rattle.judge.specs.Locksets.Held.{HeldLocksShare}
use Rattle.judge.specs.Locksets.Watched.{AreWatchedRacing}
use Rattle.judge.proofs.locksets.watched_word.watched_word_first_unguarded.Given as goal

abbrev pub invariant-loop-access : goal.invariant-loop-access
invariant-loop-access l =
    (i : ℕ) (x : LockedAccess) → i < l.access-index → slice_get l.accesses i ≡ Some x
    → AreWatchedRacing x l.later (slice_index l.cut) → (m : ℕ) × HeldLocksShare x.held l.later.held m
