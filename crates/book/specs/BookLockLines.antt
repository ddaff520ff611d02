-- What a distributed lock is by the history: the line of its holder and its askers, and the time of its releases.
use Rattle.std.specs.Prelude.{ℕ, ◌≡◌, ◌<◌, ◌⊎◌, Some, None, List, [], slice_get}
use Rattle.journal.specs.declared.event.Event.{Event}
use Rattle.journal.specs.declared.event.Kind.TheVariants.{Ask, Release}
use Rattle.base.specs.InOrderOnce.{Has}
use Rattle.journal.specs.WellFormed.{LastIs, Holds}
use Rattle.journal.specs.Pasts.{InPastOfSome}
use Rattle.journal.specs.Brings.{BringsFromKind}
use Rattle.lockq.specs.LockQueues.{LockQueue, lock_queue_line}
use Rattle.book.specs.BookStamps.{IsBookStamp}

-- the open asks of lock l stand in the line in their order, and its holder, if there is one, first
pub record IsBookLockLine (h : List Event) (l : ℕ) (xs : List ℕ) : Type 0 where
  pub each : (q i : ℕ) → LastIs h q i (Ask l) → Has xs q
  pub first : (q : ℕ) → Holds h q l → slice_get xs 0 ≡ Some q
  pub asks : (x q : ℕ) → slice_get xs x ≡ Some q → ((i : ℕ) × LastIs h q i (Ask l)) ⊎ ((x ≡ 0) × Holds h q l)
  pub order : (x y q r i k : ℕ) → x < y → slice_get xs x ≡ Some q → slice_get xs y ≡ Some r → LastIs h q i (Ask l)
      → LastIs h r k (Ask l) → i < k

-- the lock has this line, and keeps the time of its releases
pub record HasBookLockLine (n : ℕ) (h : List Event) (l : ℕ) (k : LockQueue) : Type 0 where
  pub line_is : IsBookLockLine h l (lock_queue_line k)
  pub held : k.holder ≡ None → k.queue ≡ []
  pub time : IsBookStamp n h (InPastOfSome h (BringsFromKind h (Release l))) k.time
