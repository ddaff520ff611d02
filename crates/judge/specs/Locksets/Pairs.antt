-- Accesses that only a lock keeps apart, and words of which some of these hold none in common.
use Rattle.std.specs.Prelude.{ℕ, ◌≡◌, ◌≢◌, ◌+◌, ◌<◌, IsTrue, List, MatchOption, is_some, take}
use Rattle.base.specs.InOrderOnce.{Has, InOrder}
use Rattle.journal.specs.declared.event.Event.{Event}
use Rattle.journal.specs.declared.event.Kind.{Kind}
use Rattle.journal.specs.declared.event.Kind.TheVariants.{Store}
use Rattle.journal.specs.Events.{EventAt}
use Rattle.journal.specs.WellFormed.{Does, Holds}
use Rattle.journal.specs.Races.{Race}
use Rattle.judge.specs.declared.locksets.lockset_finder.LocksetWords.{LocksetWords}
use Rattle.judge.specs.declared.locksets.lockset_finder.LocksetWords.TheVariants.{All, Forgotten}
use Rattle.judge.specs.declared.locksets.lockset_finder.Unprotected.{Unprotected}
use Rattle.judge.specs.declared.locksets.watched_word.Guarded.{Guarded}
use Rattle.judge.specs.declared.locksets.watched_word.PairedAccess.{PairedAccess}
use Rattle.judge.specs.Locksets.Unlocked.{unlocked_history}

-- two processors have stored to a before place n
pub record IsStoredByPair (j : List Event) (a n : ℕ) : Type 0 where
  pub one : ℕ
  pub other : ℕ
  pub apart : one ≢ other
  pub first : ℕ
  pub second : ℕ
  pub first_value : ℕ
  pub second_value : ℕ
  pub first_below : first < n
  pub second_below : second < n
  pub first_stores : Does j first one (Store a first_value)
  pub second_stores : Does j second other (Store a second_value)

-- place i is at or after the first store to a by a second processor
abbrev pub MayBeginPair : List Event → ℕ → ℕ → Type 0
MayBeginPair j a i = IsStoredByPair j a (i + 1)

-- two accesses of a, the first one watched, that race if locks order nothing
pub record IsPairToLock (j : List Event) (a i k : ℕ) : Type 0 where
  pub race : Race (unlocked_history j) i k
  pub address : race.conflict.address ≡ a
  pub watched : MayBeginPair j a i

-- the processor of the event at place i holds l there
pub record IsPairLockHeld (j : List Event) (i l : ℕ) : Type 0 where
  pub by : Event
  pub at : EventAt j i by
  pub holds : Holds (take i j) by.processor l

-- two accesses of a that need a lock, with l held at both
pub record IsGuardedPair (j : List Event) (a i k l : ℕ) : Type 0 where
  pub needs : IsPairToLock j a i k
  pub first : IsPairLockHeld j i l
  pub second : IsPairLockHeld j k l

-- with no lock held at both
pub record IsUnguardedPair (j : List Event) (a i k : ℕ) : Type 0 where
  pub needs : IsPairToLock j a i k
  pub none : (l : ℕ) → IsPairLockHeld j i l → ¬ IsPairLockHeld j k l

-- the processor of x made the event at its place
abbrev pub IsPairedAccess : List Event → PairedAccess → Type 0
IsPairedAccess j x = (k : Kind) × Does j x.place x.processor k

-- two accesses of a that need a lock, with no lock held at both, by those who made them
pub record TellsUnguardedPair (j : List Event) (a : ℕ) (x : PairedAccess × PairedAccess) : Type 0 where
  pub pair : IsUnguardedPair j a x.0.place x.1.place
  pub first : IsPairedAccess j x.0
  pub second : IsPairedAccess j x.1

-- two with a lock held at both
pub record TellsGuardedPair (j : List Event) (a : ℕ) (x : Guarded) : Type 0 where
  pub pair : IsGuardedPair j a x.accesses.0.place x.accesses.1.place x.lock
  pub first : IsPairedAccess j x.accesses.0
  pub second : IsPairedAccess j x.accesses.1

-- some accesses of the word that need a lock have none in common, and others have one, or none do
pub record PairsLeaveUnprotected (j : List Event) (x : Unprotected) : Type 0 where
  pub unguarded : TellsUnguardedPair j x.address x.unguarded
  pub guarded : MatchOption x.guarded ((i k l : ℕ) → ¬ IsGuardedPair j x.address i k l) (TellsGuardedPair j x.address)

-- such a word is asked for: all are, or those of which some accesses have a lock in common
abbrev pub IsUnprotectedAsked : LocksetWords → Unprotected → Type 0
IsUnprotectedAsked All x = Unit {0}
IsUnprotectedAsked Forgotten x = IsTrue (is_some x.guarded)

-- the word at a is told
pub record IsUnprotectedTold (found : List Unprotected) (a : ℕ) : Type 0 where
  pub word : Unprotected
  pub has : Has found word
  pub address : word.address ≡ a

-- these are the words at the addresses below n that are asked for, all of them, by rising address
pub record PairsTellUnprotected (asked : LocksetWords) (j : List Event) (n : ℕ) (found : List Unprotected) : Type 0 where
  pub each : (x : Unprotected) → Has found x → PairsLeaveUnprotected j x × IsUnprotectedAsked asked x × (x.address < n)
  pub all : (x : Unprotected) → PairsLeaveUnprotected j x → IsUnprotectedAsked asked x → x.address < n → IsUnprotectedTold found x.address
  pub rising : InOrder (λ (x y : Unprotected). x.address < y.address) found
