-- Sets of locks.
use Rattle.std.specs.Prelude.{ℕ, ◌↔◌, List}
use Rattle.base.specs.InOrderOnce.{Has}
use Rattle.journal.specs.declared.event.Event.{Event}
use Rattle.journal.specs.WellFormed.{Holds}
use Rattle.judge.specs.declared.locksets.held_locks.HeldLocks.{HeldLocks}

-- the set has l
abbrev pub HasHeldLock : HeldLocks → ℕ → Type 0
HasHeldLock h l = Has h.locks.items l

-- both have l
pub record HeldLocksShare (g h : HeldLocks) (l : ℕ) : Type 0 where
  pub first : HasHeldLock g l
  pub second : HasHeldLock h l

-- the set is that of the locks that p holds
abbrev pub AreHeldLocks : List Event → ℕ → HeldLocks → Type 0
AreHeldLocks j p h = (l : ℕ) → HasHeldLock h l ↔ Holds j p l
