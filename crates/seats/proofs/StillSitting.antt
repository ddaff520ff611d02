-- A processor that sits on its seat after its calls.
use Rattle.std.proofs.Common.{ℕ, inl, inr, Result, Ok, Err, OnErr, OnOk, List, subst, ◌∙◌}
use Rattle.journal.specs.declared.event.Kind.{Kind}
use Rattle.cluster.specs.Copies.Local.{Local}
use Rattle.cluster.specs.NewClusters.{SharedCluster}
use Rattle.cluster.specs.declared.cluster.accessing.WordAccess.{WordAccess}
use Rattle.seats.specs.SeatCalls.{SeatCallAccessesBy, HasDone, IsLeftUndone, IsSeatedAfterCall}
use Rattle.seats.specs.Sitting.{IsSitting, SittingSeat}

-- after a call that leaves it there
still_sitting_on : {id : SittingSeat} {c : SharedCluster} {m n : Local} → IsSitting id c m → IsSeatedAfterCall m n → IsSitting id c n
still_sitting_on sits stays = record {
  cluster = sits.cluster;
  own = stays.same.lock ∙ sits.own;
  sizes = stays.same.sizes ∙ sits.sizes;
  number = stays.same.number ∙ sits.number;
  uncut = stays.uncut ∙ sits.uncut;
  covers = stays.covers;
  allowed = stays.allowed sits.allowed;
}

-- an access
pub still_sitting_after_access : {E : Type 0} {id : SittingSeat} {c : SharedCluster} (m n : Local) (page a : ℕ) (x : WordAccess) (r : Result ℕ E)
    → IsSitting id c m → SeatCallAccessesBy m n page x a r → IsSitting id c n
still_sitting_after_access m n page a x (Ok v) sits done = still_sitting_on sits done.inside.besides.stays
still_sitting_after_access m n page a x (Err e) sits done = still_sitting_on sits done.inside.besides.stays

-- a call that closes the interval
pub still_sitting_after_closing : {A E : Type 0} {id : SittingSeat} {c : SharedCluster} (m n : Local) (kinds : List Kind) (k : Kind) (r : Result A E)
    → IsSitting id c m → OnOk r (HasDone m n kinds) → OnErr r (IsLeftUndone m n k) → IsSitting id c n
still_sitting_after_closing m n kinds k (Ok x) sits done left = still_sitting_on sits done.besides.stays
still_sitting_after_closing m n kinds k (Err e) sits done (inl undone) = still_sitting_on sits undone.inside.besides.stays
still_sitting_after_closing m n kinds k (Err e) sits done (inr begun) = still_sitting_on sits begun.besides.stays

-- the processor, whose cluster is the seat's
pub still_sitting_at : {id : SittingSeat} {c : SharedCluster} {m : Local} → IsSitting id c m → IsSitting id id.cluster m
still_sitting_at {id} {c} {m} sits = subst (λ (x : SharedCluster). IsSitting id x m) sits.cluster sits
