-- The queues after a trim.
use Rattle.std.proofs.Common.{◌≡◌, ◌≢◌, ℕ, ◌<◌, ◌≤◌, ◌+◌, ◌-◌, min, max, Bool, true, not, ◌⊎◌, inl, inr, Some, List, map, filter, drop, slice_get, slice_index, set, length, refl, sym, ap, arith, ◌∙◌}
use Rattle.std.proofs.lemmas.Bool.{cases_eq, cases_lt, and_left, and_right, and_from, eq-eqb, ne_eqb, lt-ltb, le-ltb, not_from_false, not-true, both_ways}
use Rattle.std.proofs.lemmas.List.{map-set, set-get_or, length-drop}
use Rattle.std.proofs.lemmas.Option.{slice_get_within, get_or_from_slice_get}
use Rattle.base.specs.InOrderOnce.{Has}
use Rattle.interval.specs.declared.interval.KeptInterval.{KeptInterval}
use Rattle.interval.specs.KeptClosings.{KeptClosings, is_trimmed_from_kept_closings, kept_closings_trimmed_below}
use Rattle.interval.specs.IntervalQueues.{IntervalQueue, interval_queues_merged, interval_queue_closings, interval_queue_dropped_below, IsIntervalQueue, AreIntervalQueues}
use Rattle.base.proofs.FilteredInOrder.{filtered_in_order_has, in_order-filter}
use Rattle.interval.proofs.Order.RisingByPlace.{RisesBefore, same_rising_by_place}
use Rattle.interval.proofs.Queues.Merged.{MergedQueuesHold, LiesInMerged, merged_lies, lies_merged, rises-merged}
use Rattle.base.proofs.SlicesAndCounts.{slice_get-drop}
use Rattle.base.proofs.SliceSets.{slice_get-set_same, slice_get-set_other}
use Rattle.interval.proofs.Queues.LastPushed.{last_pushed_entry}

abbrev with_trimmed_queue : List IntervalQueue → ℕ → IntervalQueue → ℕ → List IntervalQueue
with_trimmed_queue queues owner queue to = set queues owner (interval_queue_dropped_below queue to)

module _ (queues : List IntervalQueue) (count owner : ℕ) (queue : IntervalQueue) (to : ℕ) (are : AreIntervalQueues queues count)
    (owned : slice_get queues owner ≡ Some queue) where
  abbrev trimmed_queue_count : ℕ
  trimmed_queue_count = to - queue.first

  trimmed_queue_inside : owner < length queues
  trimmed_queue_inside = slice_get_within queues owner queue owned

  trimmed_queue_before : IsIntervalQueue owner count queue
  trimmed_queue_before = are.each owner queue owned

  -- an interval that stays, where it was
  trimmed_queue_stayed : (i : ℕ) (k : KeptInterval) → slice_get (drop trimmed_queue_count queue.kept) i ≡ Some k → slice_get queue.kept (trimmed_queue_count + i) ≡ Some k
  trimmed_queue_stayed i k at = sym (slice_get-drop queue.kept trimmed_queue_count i) ∙ at

  is_trimmed_queue : IsIntervalQueue owner count (interval_queue_dropped_below queue to)
  is_trimmed_queue = record {
    each = λ i k at.
        let before = trimmed_queue_stayed i k at in
        let old = trimmed_queue_before.each (trimmed_queue_count + i) k before in
        let within = slice_get_within queue.kept (trimmed_queue_count + i) k before in
        let number = old.number_is in
        record { owner_is = old.owner_is; number_is = omega arith; closed = old.closed; pages = old.pages };
    rising =
        λ x y a b lt at_x at_y. trimmed_queue_before.rising (trimmed_queue_count + x) (trimmed_queue_count + y) a b (omega arith) (trimmed_queue_stayed x a at_x)
        (trimmed_queue_stayed y b at_y);
  }

  trimmed_queue_cases : (q : ℕ) (a : IntervalQueue) → slice_get (with_trimmed_queue queues owner queue to) q ≡ Some a
      → ((q ≡ owner) × (interval_queue_dropped_below queue to ≡ a)) ⊎ ((q ≢ owner) × (slice_get queues q ≡ Some a))
  trimmed_queue_cases q a at = elim (cases_eq q owner) [
    | inl e ↦
        let here = slice_get-set_same queues owner (interval_queue_dropped_below queue to) trimmed_queue_inside in
        let there : slice_get (with_trimmed_queue queues owner queue to) owner ≡ Some a =
        ap (slice_get (with_trimmed_queue queues owner queue to)) (sym e) ∙ at in
        inl (e, cc (here, there))
    | inr other ↦ inr (other, sym (slice_get-set_other queues owner q (interval_queue_dropped_below queue to) other) ∙ at)
  ]

  -- an interval of the new queues, in the old ones
  trimmed_queue_had : (q : ℕ) (a : IntervalQueue) (j : KeptInterval) → slice_get (with_trimmed_queue queues owner queue to) q ≡ Some a → Has a.kept j
      → (b : IntervalQueue) × (slice_get queues q ≡ Some b) × Has b.kept j
  trimmed_queue_had q a j at (i, has) = elim (trimmed_queue_cases q a at) [
    | inl here ↦
        let at_i : slice_get (drop trimmed_queue_count queue.kept) i ≡ Some j =
        ap (λ (q : IntervalQueue). slice_get q.kept i) here.1 ∙ has in
        (queue, ap (slice_get queues) here.0 ∙ owned, (trimmed_queue_count + i, trimmed_queue_stayed i j at_i))
    | inr there ↦ (a, there.1, (i, has))
  ]

  pub are_trimmed_queues : AreIntervalQueues (with_trimmed_queue queues owner queue to) count
  are_trimmed_queues = record {
    few = are.few;
    each = λ q a at. elim (trimmed_queue_cases q a at) [
      | inl here ↦ rw (here.0, ← here.1) is_trimmed_queue
      | inr there ↦ are.each q a there.1
    ];
    apart = λ q r a b i j at_q at_r has_i has_j same.
        let old_i = trimmed_queue_had q a i at_q has_i in
        let old_j = trimmed_queue_had r b j at_r has_j in
        are.apart q r old_i.0 old_j.0 i j old_i.1 old_j.1 old_i.2 old_j.2 same;
  }

  trimmed_queue_spares_others : (k : KeptInterval) → k.interval.owner ≢ owner → not (is_trimmed_from_kept_closings owner to k) ≡ true
  trimmed_queue_spares_others k other = not_from_false _ (and_left _ _ (ne_eqb _ _ other))

  trimmed_queue_later_stays : (k : KeptInterval) → to ≤ k.interval.number → not (is_trimmed_from_kept_closings owner to k) ≡ true
  trimmed_queue_later_stays k later = not_from_false _ (and_right _ _ (le-ltb _ _ later))

  trimmed_queue_remains : (k : KeptInterval) → LiesInMerged (with_trimmed_queue queues owner queue to) k
      → LiesInMerged queues k × (not (is_trimmed_from_kept_closings owner to k) ≡ true)
  trimmed_queue_remains k l = elim (trimmed_queue_cases l.owner l.queue l.owned) [
    | inl here ↦
        let at_i : slice_get (drop trimmed_queue_count queue.kept) l.index ≡ Some k =
        ap (λ (q : IntervalQueue). slice_get q.kept l.index) here.1 ∙ l.at in
        let before = trimmed_queue_stayed l.index k at_i in
        let number = (trimmed_queue_before.each (trimmed_queue_count + l.index) k before).number_is in (
          record { owner = owner; queue = queue; index = trimmed_queue_count + l.index; owned = owned; at = before },
          trimmed_queue_later_stays k
              (omega arith),
        )
    | inr there ↦
        let is = (are.each l.owner l.queue there.1).each l.index k l.at in (
          record { owner = l.owner; queue = l.queue; index = l.index; owned = there.1; at = l.at },
          trimmed_queue_spares_others k
              (λ e. there.0 (sym is.owner_is ∙ e)),
        )
  ]

  -- of the owner's intervals, those from `to` on remain
  trimmed_queue_none_before : (k : KeptInterval) → not (is_trimmed_from_kept_closings owner to k) ≡ true → k.interval.owner ≡ owner → to ≤ k.interval.number
  trimmed_queue_none_before k stays is = elim (cases_lt k.interval.number to) [
    | inl lt ↦ absurd (both_ways _ (not-true _ stays) (and_from _ _ (eq-eqb _ _ is) (lt-ltb _ _ lt)))
    | inr ge ↦ ge
  ]

  trimmed_queue_remains_from : (k : KeptInterval) → LiesInMerged queues k → not (is_trimmed_from_kept_closings owner to k) ≡ true
      → LiesInMerged (with_trimmed_queue queues owner queue to) k
  trimmed_queue_remains_from k l stays = elim (cases_eq l.owner owner) [
    | inl e ↦
        let same : l.queue ≡ queue =
        let there : slice_get queues owner ≡ Some l.queue = ap (slice_get queues) (sym e) ∙ l.owned in
        cc (there, owned) in
        let at : slice_get queue.kept l.index ≡ Some k =
        ap (λ (q : IntervalQueue). slice_get q.kept l.index) (sym same) ∙ l.at in
        let is = trimmed_queue_before.each l.index k at in
        let number = is.number_is in
        let from = trimmed_queue_none_before k stays is.owner_is in
        let index : trimmed_queue_count + (l.index - trimmed_queue_count) ≡ l.index = omega arith in
        record {
          owner = owner;
          queue = interval_queue_dropped_below queue to;
          index = l.index - trimmed_queue_count;
          owned = slice_get-set_same queues owner (interval_queue_dropped_below queue to) trimmed_queue_inside;
          at = slice_get-drop queue.kept trimmed_queue_count (l.index - trimmed_queue_count) ∙ ap (slice_get queue.kept) index ∙ at;
        }
    | inr other ↦ record {
      owner = l.owner;
      queue = l.queue;
      index = l.index;
      owned = slice_get-set_other queues owner l.owner (interval_queue_dropped_below queue to) other ∙ l.owned;
      at = l.at;
    }
  ]

  pub trimmed_queues_merged : interval_queues_merged (with_trimmed_queue queues owner queue to)
      ≡ filter (λ k. not (is_trimmed_from_kept_closings owner to k)) (interval_queues_merged queues)
  trimmed_queues_merged =
      let stays : KeptInterval → Bool = λ k. not (is_trimmed_from_kept_closings owner to k) in
      same_rising_by_place (interval_queues_merged (with_trimmed_queue queues owner queue to)) (filter stays (interval_queues_merged queues))
      (rises-merged (with_trimmed_queue queues owner queue to))
      (in_order-filter RisesBefore stays (interval_queues_merged queues) (rises-merged queues))
      (λ k h. let r = trimmed_queue_remains k (merged_lies (with_trimmed_queue queues owner queue to) k h) in
      (filtered_in_order_has stays (interval_queues_merged queues) k).1 (lies_merged queues count are k r.0, r.1))
      (λ k h. let r = (filtered_in_order_has stays (interval_queues_merged queues) k).0 h in
      lies_merged (with_trimmed_queue queues owner queue to) count are_trimmed_queues k
      (trimmed_queue_remains_from k (merged_lies queues k r.0) r.1))

  pub trimmed_queues_first : map (λ (q : IntervalQueue). q.first) (with_trimmed_queue queues owner queue to)
      ≡ set (map (λ (q : IntervalQueue). q.first) queues) owner (max (slice_index (map (λ (q : IntervalQueue). q.first) queues) owner)
      (min to (slice_index (map (λ (q : IntervalQueue). q.first + length q.kept) queues) owner)))
  trimmed_queues_first =
      let first = last_pushed_entry (λ (q : IntervalQueue). q.first) queues owner queue owned in
      let next = last_pushed_entry (λ (q : IntervalQueue). q.first + length q.kept) queues owner queue owned in
      rw (first, next) (map-set (λ (q : IntervalQueue). q.first) queues owner (interval_queue_dropped_below queue to))

  pub trimmed_queues_next : map (λ (q : IntervalQueue). q.first + length q.kept) (with_trimmed_queue queues owner queue to)
      ≡ map (λ (q : IntervalQueue). q.first + length q.kept) queues
  trimmed_queues_next =
      let f : IntervalQueue → ℕ = λ q. q.first + length q.kept in
      let at = get_or_from_slice_get queues owner queue queue owned in
      let same = set-get_or queues owner queue in
      let old : set queues owner queue ≡ queues = rw at at same in
      let long = length-drop trimmed_queue_count queue.kept in
      let here : f (interval_queue_dropped_below queue to) ≡ f queue = omega arith in
      map-set f queues owner (interval_queue_dropped_below queue to) ∙ ap (set (map f queues) owner) here
      ∙ sym (map-set f queues owner queue) ∙ ap (map f) old

-- `trim` does what it says
pub trimmed_queue_closings : {queues : List IntervalQueue} {count : ℕ} {value : KeptClosings} {queue : IntervalQueue}
    → MergedQueuesHold queues count value → (owner to : ℕ) → slice_get queues owner ≡ Some queue
    → interval_queue_closings (set queues owner (interval_queue_dropped_below queue to)) count ≡ kept_closings_trimmed_below value owner to
trimmed_queue_closings {queues} {count} {value} {queue} hold owner to owned =
    let kepts = trimmed_queues_merged queues count owner queue to hold.are owned in
    let firsts = trimmed_queues_first queues count owner queue to hold.are owned in
    let nexts = trimmed_queues_next queues count owner queue to hold.are owned in
    let now : interval_queue_closings (set queues owner (interval_queue_dropped_below queue to)) count ≡ kept_closings_trimmed_below (interval_queue_closings queues count) owner to =
    rw (kepts, firsts, nexts) refl in
    now ∙ ap (λ (c : KeptClosings). kept_closings_trimmed_below c owner to) hold.seen
