-- What is kept of a history to find the words that need a lock and have none.
use Rattle.std.specs.Prelude.{ℕ, ◌≡◌, List, Option, Some, MatchOption, length, slice_get, take, vec_len}
use Rattle.journal.specs.declared.event.Event.{Event}
use Rattle.journal.specs.Events.{EventAt}
use Rattle.journal.specs.EventsInRange.{EventProcessorsInRange}
use Rattle.judge.specs.declared.locksets.lockset_finder.LocksetFinder.{LocksetFinder}
use Rattle.judge.specs.declared.locksets.held_locks.HeldLocks.{HeldLocks}
use Rattle.judge.specs.declared.locksets.watched_word.WatchedWord.{WatchedWord}
use Rattle.judge.specs.Cuts.{AreCuts}
use Rattle.judge.specs.SparseTables.{IsSparseFor, sparse_at}
use Rattle.judge.specs.Locksets.Unlocked.{unlocked_history}
use Rattle.judge.specs.Locksets.Held.{AreHeldLocks}
use Rattle.judge.specs.Locksets.Watched.{IsUnwatched, WatchedTells}

-- each set is that of its processor's locks
abbrev pub AreKeptLocksetsOfAll : List Event → List HeldLocks → Type 0
AreKeptLocksetsOfAll j sets = (p : ℕ) (h : HeldLocks) → slice_get sets p ≡ Some h → AreHeldLocks j p h

-- what is kept of each word tells what stands before place n; nothing is kept of one that isn't accessed there
abbrev pub AreKeptLocksetWords : List Event → ℕ → (ℕ → Option WatchedWord) → Type 0
AreKeptLocksetWords j n words = (a : ℕ) → MatchOption (words a) (IsUnwatched j a n) (WatchedTells j a n)

-- e stands behind j in the history h, which begins with j
pub record ComesNextToWatch (h j : List Event) (e : Event) : Type 0 where
  pub begins : take (length j) h ≡ j
  pub at : EventAt h (length j) e

-- the finder was told these events: what it keeps tells them in each history that begins so
pub record IsLocksetFinderOf (j : List Event) (x : LocksetFinder) : Type 0 where
  pub cuts : AreCuts (unlocked_history j) x.cuts
  pub processors : EventProcessorsInRange x.cuts.present j
  pub held : AreKeptLocksetsOfAll j x.held.items
  pub sets : vec_len x.held ≡ x.cuts.present
  pub words : (h : List Event) → take (length j) h ≡ j → AreKeptLocksetWords h (length j) (sparse_at x.words)
  pub sparse : IsSparseFor x.addresses (length j) x.words
