-- The book as contracts see it.
use Rattle.std.specs.Prelude.{ℕ, Option, List, [], slice_index_or}
use Rattle.journal.specs.declared.event.Kind.{Kind}
use Rattle.journal.specs.Log.{Log}
use Rattle.interval.specs.KeptClosings.{KeptClosings}
use Rattle.lockq.specs.LockQueues.{Locks}
use Rattle.barrier.specs.BarrierEpisodes.{BarrierEpisodes}
use Rattle.transit.specs.Letters.{Letter}

-- the words a page, the journal, the closed intervals, each processor's timestamp, the locks, the barrier,
-- the time of each flag that is set, what each processor waits for, and its message
pub record BookState : Type 0 where
  pub words : ℕ
  pub journal : Log
  pub closed : KeptClosings
  pub times : List (List ℕ)
  pub locks : Locks
  pub barrier : BarrierEpisodes
  pub flags : List (Option (List ℕ))
  pub awaits : List (Option Kind)
  pub transit : List (Option Letter)

-- the timestamp of processor p
abbrev pub book_state_time_of : BookState → ℕ → List ℕ
book_state_time_of b p = slice_index_or b.times p []
