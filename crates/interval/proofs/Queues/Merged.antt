-- The queues of all owners as one list.
use Rattle.std.proofs.Common.{◌≡◌, ℕ, inl, inr, Some, List, slice_get, sym, ap, subst, arith, ◌∙◌}
use Rattle.std.specs.List.{flat_map}
use Rattle.std.proofs.lemmas.Bool.{cases_order}
use Rattle.base.specs.InOrderOnce.{Has}
use Rattle.base.proofs.JoinedLists.{joined_list_has-flat_map}
use Rattle.interval.specs.declared.interval.KeptInterval.{KeptInterval}
use Rattle.interval.specs.KeptClosings.{KeptClosings}
use Rattle.interval.specs.IntervalQueues.{IntervalQueue, interval_queues_merged, interval_queue_closings, IsIntervalQueue, IsIntervalQueued, AreIntervalQueues}
use Rattle.interval.proofs.Order.RisingByPlace.{Rises, RisesApartByPlace, has-rising_by_place, has-rising_by_place_from, rises-by_place}

-- the queues of so many closed intervals hold what contracts see
pub record MergedQueuesHold (queues : List IntervalQueue) (count : ℕ) (value : KeptClosings) : Type 0 where
  pub seen : interval_queue_closings queues count ≡ value
  pub are : AreIntervalQueues queues count

-- a slice of the queues holds it too
pub merged_queues_sliced : {queues items : List IntervalQueue} {count : ℕ} {value : KeptClosings} → items ≡ queues
    → MergedQueuesHold queues count value → MergedQueuesHold items count value
merged_queues_sliced {queues} {items} {count} {value} same hold =
    let P : List IntervalQueue → Type 0 = λ qs. MergedQueuesHold qs count value in subst P (sym same) hold

-- where an interval lies
pub record LiesInMerged (queues : List IntervalQueue) (k : KeptInterval) : Type 0 where
  pub owner : ℕ
  pub queue : IntervalQueue
  pub index : ℕ
  pub owned : slice_get queues owner ≡ Some queue
  pub at : slice_get queue.kept index ≡ Some k

abbrev merged_queue_items : IntervalQueue → List KeptInterval
merged_queue_items q = q.kept

merged_lies_inside : (queues : List IntervalQueue) (k : KeptInterval) → Has (flat_map merged_queue_items queues) k → LiesInMerged queues k
merged_lies_inside queues k h =
    let w = (joined_list_has-flat_map merged_queue_items queues k).0 h in
    record { owner = w.1.0; queue = w.0; index = w.2.0; owned = w.1.1; at = w.2.1 }

pub lies_in_merged : (queues : List IntervalQueue) (k : KeptInterval) → LiesInMerged queues k → Has (flat_map merged_queue_items queues) k
lies_in_merged queues k l = (joined_list_has-flat_map merged_queue_items queues k).1 (l.queue, (l.owner, l.owned), (l.index, l.at))

-- in a queue a closing number stands for one interval
one_place_merged : {owner count : ℕ} {queue : IntervalQueue} {j k : KeptInterval} → IsIntervalQueue owner count queue → (i m : ℕ)
    → slice_get queue.kept i ≡ Some j → slice_get queue.kept m ≡ Some k → j.place ≡ k.place → j ≡ k
one_place_merged {owner} {count} {queue} {j} {k} is i m at_i at_m same = elim (cases_order i m) [
  | inl e ↦ let swap : slice_get queue.kept i ≡ Some k = ap (slice_get queue.kept) e ∙ at_m in cc
  | inr other ↦ elim other [
    | inl before ↦ let lt = is.rising i m j k before at_i at_m in absurd (omega arith)
    | inr after ↦ let lt = is.rising m i k j after at_m at_i in absurd (omega arith)
  ]
]

-- in all queues
pub merged_queues_one_interval : (queues : List IntervalQueue) (count : ℕ) → AreIntervalQueues queues count → (j k : KeptInterval) → LiesInMerged queues j
    → LiesInMerged queues k → j.place ≡ k.place → j ≡ k
merged_queues_one_interval queues count are j k a b same =
    let owner = are.apart a.owner b.owner a.queue b.queue j k a.owned b.owned (a.index, a.at) (b.index, b.at) same in
    let queue : b.queue ≡ a.queue =
    let swap : slice_get queues a.owner ≡ Some b.queue = ap (slice_get queues) owner ∙ b.owned in cc in
    let at : slice_get a.queue.kept b.index ≡ Some k =
    ap (λ (q : IntervalQueue). slice_get q.kept b.index) (sym queue) ∙ b.at in
    one_place_merged (are.each a.owner a.queue a.owned) a.index b.index a.at at same

merged_queues_apart : (queues : List IntervalQueue) (count : ℕ) → AreIntervalQueues queues count → RisesApartByPlace (flat_map merged_queue_items queues)
merged_queues_apart queues count are j k h g same = merged_queues_one_interval queues count are j k (merged_lies_inside queues j h) (merged_lies_inside queues k g) same

-- what stands in the merged list
pub merged_lies : (queues : List IntervalQueue) (k : KeptInterval) → Has (interval_queues_merged queues) k → LiesInMerged queues k
merged_lies queues k h = merged_lies_inside queues k (has-rising_by_place (flat_map merged_queue_items queues) k h)

pub lies_merged : (queues : List IntervalQueue) (count : ℕ) → AreIntervalQueues queues count → (k : KeptInterval) → LiesInMerged queues k
    → Has (interval_queues_merged queues) k
lies_merged queues count are k l =
    has-rising_by_place_from (flat_map merged_queue_items queues) (merged_queues_apart queues count are) k (lies_in_merged queues k l)

pub rises-merged : (queues : List IntervalQueue) → Rises (interval_queues_merged queues)
rises-merged queues = rises-by_place (flat_map merged_queue_items queues)

-- what is known of an interval where it lies
pub merged_queue_interval : (queues : List IntervalQueue) (count : ℕ) → AreIntervalQueues queues count → (k : KeptInterval) (l : LiesInMerged queues k)
    → IsIntervalQueued l.owner count l.queue l.index k
merged_queue_interval queues count are k l = (are.each l.owner l.queue l.owned).each l.index k l.at
