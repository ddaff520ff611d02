-- What is kept of a word's accesses to find those that only a lock keeps apart.
use Rattle.std.specs.Prelude.{ℕ, ◌≡◌, ◌≢◌, ◌⊎◌, ◌<◌, ◌≤◌, IsTrue, List, Option, Some, MatchOption, take}
use Rattle.base.specs.InOrderOnce.{Has}
use Rattle.journal.specs.declared.event.Event.{Event}
use Rattle.journal.specs.declared.event.Kind.{Kind}
use Rattle.journal.specs.declared.event.Kind.TheVariants.{Store}
use Rattle.journal.specs.Events.{EventAt, event_address, event_stores}
use Rattle.journal.specs.WellFormed.{Does}
use Rattle.judge.specs.declared.locksets.watched_word.Guarded.{Guarded}
use Rattle.judge.specs.declared.locksets.watched_word.LockedAccess.{LockedAccess}
use Rattle.judge.specs.declared.locksets.watched_word.PairedAccess.{PairedAccess}
use Rattle.judge.specs.declared.locksets.watched_word.WatchedStorers.{WatchedStorers}
use Rattle.judge.specs.declared.locksets.watched_word.WatchedStorers.TheVariants.{Nobody, One, Several}
use Rattle.judge.specs.declared.locksets.watched_word.WatchedWord.{WatchedWord}
use Rattle.judge.specs.Cuts.{IsCutOf}
use Rattle.judge.specs.Locksets.Unlocked.{unlocked_history}
use Rattle.judge.specs.Locksets.Held.{AreHeldLocks, HeldLocksShare}
use Rattle.judge.specs.Locksets.Pairs.{IsGuardedPair, IsStoredByPair, IsUnguardedPair, MayBeginPair, TellsGuardedPair, TellsUnguardedPair}

-- nothing accesses a before place n
abbrev pub IsUnwatched : List Event → ℕ → ℕ → Type 0
IsUnwatched j a n = (i : ℕ) (e : Event) → i < n → EventAt j i e → event_address e.kind ≢ Some a

-- the access of a at place i, with the locks that its processor holds there
pub record IsWatchCandidate (j : List Event) (a i : ℕ) (x : LockedAccess) : Type 0 where
  pub place : x.place ≡ i
  pub kind : Kind
  pub does : Does j i x.processor kind
  pub address : event_address kind ≡ Some a
  pub stores : x.stores ≡ event_stores kind
  pub held : AreHeldLocks (take i j) x.processor x.held

-- y is the access of a at place n, and t is what its processor knows of the others there, where locks order nothing
pub record IsWatchedNext (j : List Event) (a n : ℕ) (y : LockedAccess) (t : ℕ → ℕ) : Type 0 where
  pub access : IsWatchCandidate j a n y
  pub cut : IsCutOf (unlocked_history (take n j)) y.processor t

-- by whom a is stored to before place n
abbrev pub AreWatchedStorers : List Event → ℕ → ℕ → WatchedStorers → Type 0
AreWatchedStorers j a n Nobody = (i q v : ℕ) → i < n → ¬ Does j i q (Store a v)
AreWatchedStorers j a n (One p) = ((i : ℕ) × (v : ℕ) × (i < n) × Does j i p (Store a v))
    × ((i q v : ℕ) → i < n → Does j i q (Store a v) → q ≡ p)
AreWatchedStorers j a n Several = IsStoredByPair j a n

-- x is a later access like q's at place i: of this kind, with the same locks
pub record IsWatchedStandIn (j : List Event) (i q : ℕ) (k : Kind) (x : LockedAccess) : Type 0 where
  pub processor : x.processor ≡ q
  pub stores : x.stores ≡ event_stores k
  pub held : AreHeldLocks (take i j) q x.held
  pub later : i ≤ x.place

-- x is a watched access of a before place n
pub record IsWatchedAccess (j : List Event) (a n : ℕ) (x : LockedAccess) : Type 0 where
  pub access : IsWatchCandidate j a x.place x
  pub below : x.place < n
  pub watched : MayBeginPair j a x.place

-- one that is kept stands for this one
pub record HasWatchedStandIn (j : List Event) (xs : List LockedAccess) (i q : ℕ) (k : Kind) : Type 0 where
  pub access : LockedAccess
  pub has : Has xs access
  pub stands : IsWatchedStandIn j i q k access

-- these are watched accesses of a before place n, and for each such access one stands
pub record AreWatchedAccesses (j : List Event) (a n : ℕ) (xs : List LockedAccess) : Type 0 where
  pub each : (x : LockedAccess) → Has xs x → IsWatchedAccess j a n x
  pub all : (i q : ℕ) (k : Kind) → i < n → Does j i q k → event_address k ≡ Some a → MayBeginPair j a i → HasWatchedStandIn j xs i q k

-- a pair of a with no lock in common that ends before place n, if there is one
abbrev pub IsWatchedUnguarded : List Event → ℕ → ℕ → Option (PairedAccess × PairedAccess) → Type 0
IsWatchedUnguarded j a n o = MatchOption o ((i k : ℕ) → k < n → ¬ IsUnguardedPair j a i k) (TellsUnguardedPair j a)

-- and one with a lock in common
abbrev pub IsWatchedGuarded : List Event → ℕ → ℕ → Option Guarded → Type 0
IsWatchedGuarded j a n o = MatchOption o ((i k l : ℕ) → k < n → ¬ IsGuardedPair j a i k l) (TellsGuardedPair j a)

-- what is kept of a tells what stands before place n
pub record WatchedTells (j : List Event) (a n : ℕ) (w : WatchedWord) : Type 0 where
  pub storers : AreWatchedStorers j a n w.storers
  pub accesses : AreWatchedAccesses j a n w.accesses.items
  pub unguarded : IsWatchedUnguarded j a n w.unguarded
  pub guarded : IsWatchedGuarded j a n w.guarded

-- x and y, the later one, conflict and are of two processors, and y's processor, which knows t, doesn't know x
pub record AreWatchedRacing (x y : LockedAccess) (t : ℕ → ℕ) : Type 0 where
  pub apart : x.processor ≢ y.processor
  pub stores : IsTrue x.stores ⊎ IsTrue y.stores
  pub later : t x.processor ≤ x.place

-- an access, as it is told
abbrev pub paired_access : LockedAccess → PairedAccess
paired_access x = record { place = x.place; processor = x.processor }

-- such an x among these, with a lock in common with y
pub record IsWatchedGuardedWith (xs : List LockedAccess) (y : LockedAccess) (t : ℕ → ℕ) (g : Guarded) : Type 0 where
  pub access : LockedAccess
  pub has : Has xs access
  pub needs : AreWatchedRacing access y t
  pub shares : HeldLocksShare access.held y.held g.lock
  pub first : g.accesses.0 ≡ paired_access access
  pub second : g.accesses.1 ≡ paired_access y

-- and one with none in common
pub record IsWatchedUnguardedWith (xs : List LockedAccess) (y : LockedAccess) (t : ℕ → ℕ) (u : PairedAccess × PairedAccess) : Type 0 where
  pub access : LockedAccess
  pub has : Has xs access
  pub needs : AreWatchedRacing access y t
  pub none : (l : ℕ) → ¬ HeldLocksShare access.held y.held l
  pub first : u.0 ≡ paired_access access
  pub second : u.1 ≡ paired_access y

-- x is like y: of one processor and kind, with the same locks
pub record IsWatchedAlike (x y : LockedAccess) : Type 0 where
  pub processor : x.processor ≡ y.processor
  pub stores : x.stores ≡ y.stores
  pub held : x.held.locks.items ≡ y.held.locks.items

-- after y is kept: y and others of before are there, and all of them but those like y
pub record IsWatchedKept (before : List LockedAccess) (y : LockedAccess) (after : List LockedAccess) : Type 0 where
  pub has : Has after y
  pub only : (x : LockedAccess) → Has after x → (x ≡ y) ⊎ Has before x
  pub rest : (x : LockedAccess) → Has before x → Has after x ⊎ IsWatchedAlike x y
