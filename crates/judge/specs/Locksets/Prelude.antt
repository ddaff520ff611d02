-- The words that contracts name, passed on from one place. Declares nothing.
pub use Rattle.judge.specs.Locksets.Unlocked.{unlocked_event, unlocked_history}
pub use Rattle.judge.specs.Locksets.Pairs.{IsGuardedPair, IsUnguardedPair, IsUnprotectedAsked, PairsTellUnprotected, PairsLeaveUnprotected, TellsGuardedPair}
pub use Rattle.judge.specs.Locksets.Held.{AreHeldLocks, HasHeldLock, HeldLocksShare}
pub use Rattle.judge.specs.Locksets.Watched.{AreWatchedRacing, AreWatchedStorers, IsUnwatched, IsWatchedNext, IsWatchedKept}
pub use Rattle.judge.specs.Locksets.Watched.{IsWatchedGuarded, IsWatchedGuardedWith, IsWatchedAlike, IsWatchCandidate, IsWatchedUnguarded, IsWatchedUnguardedWith, paired_access}
pub use Rattle.judge.specs.Locksets.Watched.{WatchedTells}
pub use Rattle.judge.specs.Locksets.KeptLocksets.{AreKeptLocksetsOfAll, AreKeptLocksetWords, ComesNextToWatch, IsLocksetFinderOf}
