-- How the kept intervals lie: one queue for each owner.
use Rattle.std.specs.Prelude.{ℕ, ◌≡◌, ◌≢◌, ◌↔◌, ◌+◌, ◌-◌, ◌^◌, ◌<◌, min, max, drop, take, nat_lt, cond, Some, List, [], ◌∷◌, map, length, slice_get}
use Rattle.std.specs.List.{flat_map}
use Rattle.base.specs.InOrderOnce.{Has, InOrder}
use Rattle.interval.specs.declared.interval.KeptInterval.{KeptInterval}
use Rattle.interval.specs.SentIntervals.{SentIntervalPagesRise}
use Rattle.interval.specs.KeptClosings.{KeptClosings}

-- the kept intervals of one owner by rising number, from `first` on
pub record IntervalQueue : Type 0 where
  pub first : ℕ
  pub kept : List KeptInterval

-- the list with k at its place. One that has an interval with k's closing number stays as it is, and k
-- is dropped
abbrev pub interval_queue_placed : KeptInterval → List KeptInterval → List KeptInterval
interval_queue_placed k [] = k ∷ []
interval_queue_placed k (x ∷ xs) =
    cond (nat_lt k.place x.place) (k ∷ x ∷ xs) (cond (nat_lt x.place k.place) (x ∷ interval_queue_placed k xs) (x ∷ xs))

-- the intervals by rising closing number, one for each such number
abbrev pub interval_queue_by_place : List KeptInterval → List KeptInterval
interval_queue_by_place [] = []
interval_queue_by_place (x ∷ xs) = interval_queue_placed x (interval_queue_by_place xs)

-- all queues as one list in closing order
abbrev pub interval_queues_merged : List IntervalQueue → List KeptInterval
interval_queues_merged queues = interval_queue_by_place (flat_map (λ (q : IntervalQueue). q.kept) queues)

-- what the queues hold, in the words of contracts
abbrev pub interval_queue_closings : List IntervalQueue → ℕ → KeptClosings
interval_queue_closings queues count = record {
  kept = interval_queues_merged queues;
  first = map (λ (q : IntervalQueue). q.first) queues;
  next = map (λ (q : IntervalQueue). q.first + length q.kept) queues;
  pushed = count;
}

-- the interval at index i of the owner's queue
pub record IsIntervalQueued (owner count : ℕ) (queue : IntervalQueue) (i : ℕ) (k : KeptInterval) : Type 0 where
  pub owner_is : k.interval.owner ≡ owner
  pub number_is : k.interval.number ≡ queue.first + i
  pub closed : k.place < count
  pub pages : SentIntervalPagesRise k.interval.records

-- the owner's queue, when that many intervals were closed in all
pub record IsIntervalQueue (owner count : ℕ) (queue : IntervalQueue) : Type 0 where
  pub each : (i : ℕ) (k : KeptInterval) → slice_get queue.kept i ≡ Some k → IsIntervalQueued owner count queue i k
  pub rising : InOrder (λ (j k : KeptInterval). j.place < k.place) queue.kept

-- one queue for each owner, and no closing number in two of them; the count of all that were closed fits a word
pub record AreIntervalQueues (queues : List IntervalQueue) (count : ℕ) : Type 0 where
  pub few : count < 2 ^ 64
  pub each : (q : ℕ) (queue : IntervalQueue) → slice_get queues q ≡ Some queue → IsIntervalQueue q count queue
  pub apart : (q r : ℕ) (a b : IntervalQueue) (j k : KeptInterval) → slice_get queues q ≡ Some a → slice_get queues r ≡ Some b
      → Has a.kept j → Has b.kept k → j.place ≡ k.place → q ≡ r

-- the list has just these intervals, in any order, and no closing number twice
pub record SameQueuedIntervals (ks list : List KeptInterval) : Type 0 where
  pub same : (k : KeptInterval) → Has list k ↔ Has ks k
  pub apart : InOrder (λ (j k : KeptInterval). j.place ≢ k.place) list

-- the queue without the intervals with numbers below `to`
abbrev pub interval_queue_dropped_below : IntervalQueue → ℕ → IntervalQueue
interval_queue_dropped_below queue to = record {
  first = max queue.first (min to (queue.first + length queue.kept));
  kept = drop (to - queue.first) queue.kept;
}

-- the queue's intervals with numbers within from..to
abbrev pub interval_queue_within : IntervalQueue → ℕ → ℕ → List KeptInterval
interval_queue_within queue from to = drop (from - queue.first) (take (to - queue.first) queue.kept)
