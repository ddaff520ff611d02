-- Distributed locks. An asker holds a lock from the moment when its grant is due.
use Rattle.std.specs.Prelude.{ℕ, ◌≡◌, ◌<◌, Option, Some, None, List, [], ◌∷◌, ◌++◌, length, replicate, slice_index_or, slice_set}
use Rattle.std.specs.Option.{option_to_list}
use Rattle.base.specs.InOrderOnce.{Has, IsOnce}

-- who holds the lock, who is queued for it, and the time that its last release left with it
pub record LockQueue : Type 0 where
  pub holder : Option ℕ
  pub queue : List ℕ
  pub time : List ℕ

pub record Locks : Type 0 where
  pub processors : ℕ
  pub locks : List LockQueue

-- a lock that was never released, nor asked for, among n processors
abbrev pub lock_queue_unheld : ℕ → LockQueue
lock_queue_unheld n = record { holder = None; queue = []; time = replicate n 0 }

-- lock l
abbrev pub lock_queue_at : Locks → ℕ → LockQueue
lock_queue_at s l = slice_index_or s.locks l (lock_queue_unheld s.processors)

-- the locks with another state of lock l
abbrev pub with_lock_queue : Locks → ℕ → LockQueue → Locks
with_lock_queue s l k = record s { locks = slice_set s.locks l k }

-- the holder, and those who wait, in the order in which they asked
abbrev pub lock_queue_line : LockQueue → List ℕ
lock_queue_line k = option_to_list k.holder ++ k.queue

-- p joins the line: it holds the lock if nobody does, and is last in the queue otherwise
abbrev pub lock_queue_joined : Option ℕ → LockQueue → ℕ → LockQueue
lock_queue_joined None k p = record k { holder = Some p }
lock_queue_joined (Some q) k p = record k { queue = k.queue ++ p ∷ [] }

-- the lock after p asked for it
abbrev pub lock_queue_asked : LockQueue → ℕ → LockQueue
lock_queue_asked k p = lock_queue_joined k.holder k p

-- the lock goes to the first of the queue
abbrev pub lock_queue_passed : List ℕ → List ℕ → LockQueue
lock_queue_passed [] time = record { holder = None; queue = []; time = time }
lock_queue_passed (q ∷ queue) time = record { holder = Some q; queue = queue; time = time }

-- the lock after its holder released it at this time
abbrev pub lock_queue_released : LockQueue → List ℕ → LockQueue
lock_queue_released k time = lock_queue_passed k.queue time

-- nobody stands twice in the line of n processors,
-- and somebody is queued only if the lock is held
pub record IsOrderlyLockQueue (n : ℕ) (k : LockQueue) : Type 0 where
  pub once : IsOnce (lock_queue_line k)
  pub within : (p : ℕ) → Has (lock_queue_line k) p → p < n
  pub held : k.holder ≡ None → k.queue ≡ []
  pub long : length k.time ≡ n
