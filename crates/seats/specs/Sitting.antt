-- Which processor of which cluster sits on a seat.
use Rattle.std.specs.Prelude.{ℕ, ◌≡◌, List, []}
use Rattle.turn.specs.Chairs.{ChairLockId}
use Rattle.journal.specs.declared.event.Kind.{Kind}
use Rattle.cluster.specs.Copies.Local.{Local, calls, new_local}
use Rattle.cluster.specs.NewClusters.{SharedCluster}
use Rattle.cluster.specs.Covers.{HasCoverage, IsCoverAllowed}
use Rattle.seats.specs.Deeds.{deeds}
use Rattle.seats.specs.PhaseGuards.{KeepsToPhaseGuards}
use Rattle.seats.specs.Tables.{GuardTables, guards_of}

-- the cluster, the processor's number there, and the layout that it keeps to
pub record SittingSeat : Type 0 where
  pub cluster : SharedCluster
  pub number : ℕ
  pub layout : GuardTables

-- what a processor did, as its program sees it
abbrev pub seat_deeds : Local → List Kind
seat_deeds m = deeds (calls m)

-- a lock of no cluster
abbrev pub sitting_at_no_lock : ChairLockId
sitting_at_no_lock = record {
  table = record { words = 0; slots = 0; views_name = 0; atom = 0; block = 0; offset = 0; slot_names = [] };
  limit = 0;
}

-- a seat of no cluster
abbrev pub sitting_nowhere : SittingSeat
sitting_nowhere = record {
  cluster = record { lock = sitting_at_no_lock; sizes = record { processors = 0; pages = 0; words = 0; locks = 0; flags = 0 } };
  number = 0;
  layout = record { tables = []; round = 0 };
}

-- this processor sits there, beside its own cluster: whatever book the lock has covers it, there is one, and it cut
-- nothing off
pub record IsSitting (id : SittingSeat) (c : SharedCluster) (m : Local) : Type 0 where
  pub cluster : c ≡ id.cluster
  pub own : m.lock ≡ c.lock
  pub sizes : m.sizes ≡ c.sizes
  pub number : m.number ≡ id.number
  pub uncut : m.own_cut ≡ 0
  pub covers : HasCoverage m
  pub allowed : IsCoverAllowed m

-- the processor of a seat before its first call
abbrev pub new_sitting_processor : SittingSeat → Local
new_sitting_processor id = new_local id.cluster.lock id.number id.cluster.sizes

-- whoever sits there has kept to the layout, and has done what a program says of its processor's number, what it did, and
-- the answer
pub record HasWorkedSitting {X : Type 0} (did : ℕ → List Kind → X → Type 0) (id : SittingSeat) (m : Local) (x : X) : Type 0 where
  pub sits : IsSitting id id.cluster m
  pub kept : KeepsToPhaseGuards (guards_of id.layout) id.number (seat_deeds m)
  pub done : did id.number (seat_deeds m) x
