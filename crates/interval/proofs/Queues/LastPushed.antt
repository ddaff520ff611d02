-- The queues after one more interval, closed last, in its owner's queue.
use Rattle.std.proofs.Common.{◌≡◌, ◌≢◌, ℕ, zero, suc, ◌<◌, ◌+◌, ◌-◌, ◌^◌, ◌⊎◌, inl, inr, Some, List, [], ◌∷◌, ◌++◌, map, slice_get, slice_index, set, get_or, length, refl, sym, ap, arith, ◌∙◌}
use Rattle.std.proofs.lemmas.Bool.{cases_eq}
use Rattle.std.proofs.lemmas.List.{length_push, length-map, map-set, set-get_or}
use Rattle.std.proofs.lemmas.Option.{slice_get_within, get_or_from_slice_get, slice_get_read}
use Rattle.base.specs.InOrderOnce.{Has, InOrder}
use Rattle.base.proofs.JoinedLists.{joined_list_has-nil, joined_list_has-cons, joined_list_has-append}
use Rattle.base.proofs.SlicesAndCounts.{slice_get-append_left, slice_get-last, slice_push_cases}
use Rattle.base.proofs.SliceSets.{slice_get-set_same, slice_get-set_other}
use Rattle.interval.specs.declared.interval.KeptInterval.{KeptInterval}
use Rattle.interval.specs.SentIntervals.{SentIntervalPagesRise, ClosedInterval}
use Rattle.interval.specs.KeptClosings.{KeptClosings, kept_closings_pushed}
use Rattle.interval.specs.IntervalQueues.{IntervalQueue, interval_queues_merged, interval_queue_closings, IsIntervalQueue, IsIntervalQueued, AreIntervalQueues}
use Rattle.interval.proofs.Order.RisingByPlace.{rises-push, same_rising_by_place}
use Rattle.interval.proofs.Queues.Merged.{MergedQueuesHold, LiesInMerged, merged_lies, lies_merged, rises-merged, merged_queue_interval}

-- the interval k comes last in the queue of its owner, and is closed last
pub record ComesLastPushed (queues : List IntervalQueue) (count owner : ℕ) (queue : IntervalQueue) (k : KeptInterval) : Type 0 where
  pub owned : slice_get queues owner ≡ Some queue
  pub owner_is : k.interval.owner ≡ owner
  pub number_is : k.interval.number ≡ queue.first + length queue.kept
  pub place_is : k.place ≡ count
  pub fits : count + 1 < 2 ^ 64
  pub pages : SentIntervalPagesRise k.interval.records

abbrev pub queue_with_last_pushed : IntervalQueue → KeptInterval → IntervalQueue
queue_with_last_pushed queue k = record { first = queue.first; kept = queue.kept ++ k ∷ [] }

abbrev pub queues_with_last_pushed : List IntervalQueue → ℕ → IntervalQueue → KeptInterval → List IntervalQueue
queues_with_last_pushed queues owner queue k = set queues owner (queue_with_last_pushed queue k)

module _ (queues : List IntervalQueue) (count owner : ℕ) (queue : IntervalQueue) (k : KeptInterval) (are : AreIntervalQueues queues count)
    (comes : ComesLastPushed queues count owner queue k) where
  last_pushed_inside : owner < length queues
  last_pushed_inside = slice_get_within queues owner queue comes.owned

  -- a queue of the new ones
  last_pushed_queue_cases : (q : ℕ) (a : IntervalQueue) → slice_get (queues_with_last_pushed queues owner queue k) q ≡ Some a
      → ((q ≡ owner) × (queue_with_last_pushed queue k ≡ a)) ⊎ ((q ≢ owner) × (slice_get queues q ≡ Some a))
  last_pushed_queue_cases q a at = elim (cases_eq q owner) [
    | inl e ↦
        let here = slice_get-set_same queues owner (queue_with_last_pushed queue k) last_pushed_inside in
        let there : slice_get (queues_with_last_pushed queues owner queue k) owner ≡ Some a =
        ap (slice_get (queues_with_last_pushed queues owner queue k)) (sym e) ∙ at in
        inl (e, cc (here, there))
    | inr other ↦ inr (other, sym (slice_get-set_other queues owner q (queue_with_last_pushed queue k) other) ∙ at)
  ]

  last_pushed_was_queue : IsIntervalQueue owner count queue
  last_pushed_was_queue = are.each owner queue comes.owned

  queued_last : (i : ℕ) (j : KeptInterval) → slice_get (queue.kept ++ k ∷ []) i ≡ Some j
      → IsIntervalQueued owner (count + 1) (queue_with_last_pushed queue k) i j
  queued_last i j at = elim (slice_push_cases queue.kept k i j at) [
    | inl old ↦
        let was = last_pushed_was_queue.each i j old.1 in
        let before = was.closed in
        record { owner_is = was.owner_is; number_is = was.number_is; closed = omega arith; pages = was.pages }
    | inr new ↦
        let P : KeptInterval → Type 0 = λ j. IsIntervalQueued owner (count + 1) (queue_with_last_pushed queue k) i j in
        let place = comes.place_is in
        let number = comes.number_is in
        let index = new.0 in
        let is : P k =
        record { owner_is = comes.owner_is; number_is = omega arith; closed = omega arith; pages = comes.pages }
        in
        rw (← new.1) is
  ]

  last_pushed_rising : InOrder (λ (j k : KeptInterval). j.place < k.place) (queue.kept ++ k ∷ [])
  last_pushed_rising x y a b lt at_x at_y = elim (slice_push_cases queue.kept k y b at_y) [
    | inl old_y ↦
        let within = old_y.0 in
        elim (slice_push_cases queue.kept k x a at_x) [
          | inl old_x ↦ last_pushed_was_queue.rising x y a b lt old_x.1 old_y.1
          | inr new_x ↦ let index = new_x.0 in absurd (omega arith)
        ]
    | inr new_y ↦
        let index = new_y.0 in
        elim (slice_push_cases queue.kept k x a at_x) [
          | inl old_x ↦
              let before = (last_pushed_was_queue.each x a old_x.1).closed in
              let place = comes.place_is in
              let same : k.place ≡ b.place = ap (λ (z : KeptInterval). z.place) new_y.1 in
              omega arith
          | inr new_x ↦ let same = new_x.0 in absurd (omega arith)
        ]
  ]

  -- where an interval of the new queues lay before
  pub last_pushed_lies_from : (j : KeptInterval) → LiesInMerged (queues_with_last_pushed queues owner queue k) j → (j ≡ k) ⊎ LiesInMerged queues j
  last_pushed_lies_from j l = elim (last_pushed_queue_cases l.owner l.queue l.owned) [
    | inl here ↦
        let at : slice_get (queue.kept ++ k ∷ []) l.index ≡ Some j =
        ap (λ (q : IntervalQueue). slice_get q.kept l.index) here.1 ∙ l.at in
        elim (slice_push_cases queue.kept k l.index j at) [
          | inl old ↦ inr (record { owner = owner; queue = queue; index = l.index; owned = comes.owned; at = old.1 })
          | inr new ↦ inl (sym new.1)
        ]
    | inr there ↦ inr (record { owner = l.owner; queue = l.queue; index = l.index; owned = there.1; at = l.at })
  ]

  pub lies_pushed : (j : KeptInterval) → LiesInMerged queues j → LiesInMerged (queues_with_last_pushed queues owner queue k) j
  lies_pushed j l = elim (cases_eq l.owner owner) [
    | inl e ↦
        let same : l.queue ≡ queue =
        let there : slice_get queues owner ≡ Some l.queue = ap (slice_get queues) (sym e) ∙ l.owned in
        cc (there, comes.owned) in
        let at : slice_get queue.kept l.index ≡ Some j =
        ap (λ (q : IntervalQueue). slice_get q.kept l.index) (sym same) ∙ l.at in
        record {
          owner = owner;
          queue = queue_with_last_pushed queue k;
          index = l.index;
          owned = slice_get-set_same queues owner (queue_with_last_pushed queue k) last_pushed_inside;
          at =
              slice_get-append_left queue.kept (k ∷ []) l.index (slice_get_within queue.kept l.index j at)
              ∙ at;
        }
    | inr other ↦ record {
      owner = l.owner;
      queue = l.queue;
      index = l.index;
      owned = slice_get-set_other queues owner l.owner (queue_with_last_pushed queue k) other ∙ l.owned;
      at = l.at;
    }
  ]

  last_pushed_lies_in_merged : LiesInMerged (queues_with_last_pushed queues owner queue k) k
  last_pushed_lies_in_merged =
      record {
        owner = owner;
        queue = queue_with_last_pushed queue k;
        index = length queue.kept;
        owned = slice_get-set_same queues owner (queue_with_last_pushed queue k) last_pushed_inside;
        at = slice_get-last queue.kept k;
      }

  -- k is the only one with its place
  last_pushed_place_below : (j : KeptInterval) → LiesInMerged queues j → j.place < count
  last_pushed_place_below j l = (merged_queue_interval queues count are j l).closed

  last_pushed_has : (q : ℕ) (a : IntervalQueue) (j : KeptInterval) → slice_get (queues_with_last_pushed queues owner queue k) q ≡ Some a → Has a.kept j
      → ((q ≡ owner) × (j ≡ k)) ⊎ ((b : IntervalQueue) × (slice_get queues q ≡ Some b) × Has b.kept j)
  last_pushed_has q a j at (i, has) = elim (last_pushed_queue_cases q a at) [
    | inl here ↦
        let in_last : slice_get (queue.kept ++ k ∷ []) i ≡ Some j =
        ap (λ (q : IntervalQueue). slice_get q.kept i) here.1 ∙ has in
        elim (slice_push_cases queue.kept k i j in_last) [
          | inl old ↦ inr (queue, ap (slice_get queues) here.0 ∙ comes.owned, (i, old.1))
          | inr new ↦ inl (here.0, sym new.1)
        ]
    | inr there ↦ inr (a, there.1, (i, has))
  ]

  pub are_pushed : AreIntervalQueues (queues_with_last_pushed queues owner queue k) (count + 1)
  are_pushed = record {
    few = comes.fits;
    each = λ q a at. elim (last_pushed_queue_cases q a at) [
      | inl here ↦
          let is : IsIntervalQueue owner (count + 1) (queue_with_last_pushed queue k) =
          record { each = queued_last; rising = last_pushed_rising } in
          rw (here.0, ← here.1) is
      | inr there ↦
          let was = are.each q a there.1 in
          record {
            each =
                λ i j at_i. let old = was.each i j at_i in let before = old.closed in
                record {
                  owner_is = old.owner_is;
                  number_is = old.number_is;
                  closed = omega arith;
                  pages = old.pages;
                };
            rising = was.rising;
          }
    ];
    apart = λ q r a b i j at_q at_r has_i has_j same. elim (last_pushed_has q a i at_q has_i) [
      | inl new_i ↦ elim (last_pushed_has r b j at_r has_j) [
        | inl new_j ↦ new_i.0 ∙ sym new_j.0
        | inr old_j ↦
            let below =
            last_pushed_place_below j
            (record { owner = r; queue = old_j.0; index = old_j.2.0; owned = old_j.1; at = old_j.2.1 }) in
            let is : i.place ≡ k.place = ap (λ (z : KeptInterval). z.place) new_i.1 in
            let place = comes.place_is in
            absurd (omega arith)
      ]
      | inr old_i ↦ elim (last_pushed_has r b j at_r has_j) [
        | inl new_j ↦
            let below =
            last_pushed_place_below i
            (record { owner = q; queue = old_i.0; index = old_i.2.0; owned = old_i.1; at = old_i.2.1 }) in
            let is : j.place ≡ k.place = ap (λ (z : KeptInterval). z.place) new_j.1 in
            let place = comes.place_is in
            absurd (omega arith)
        | inr old_j ↦ are.apart q r old_i.0 old_j.0 i j old_i.1 old_j.1 old_i.2 old_j.2 same
      ]
    ];
  }

  pub last_pushed_merged : interval_queues_merged (queues_with_last_pushed queues owner queue k) ≡ interval_queues_merged queues ++ k ∷ []
  last_pushed_merged =
      let place = comes.place_is in
      let below : (j : KeptInterval) → Has (interval_queues_merged queues) j → j.place < k.place =
      λ j h. let lt = last_pushed_place_below j (merged_lies queues j h) in omega arith in
      let to : (j : KeptInterval) → Has (interval_queues_merged (queues_with_last_pushed queues owner queue k)) j
      → Has (interval_queues_merged queues ++ k ∷ []) j = λ j h.
      (joined_list_has-append (interval_queues_merged queues) (k ∷ []) j).1
      (elim (last_pushed_lies_from j (merged_lies (queues_with_last_pushed queues owner queue k) j h)) [
        | inl new ↦ inr (0, ap Some (sym new))
        | inr old ↦ inl (lies_merged queues count are j old)
      ]) in
      let from : (j : KeptInterval) → Has (interval_queues_merged queues ++ k ∷ []) j
      → Has (interval_queues_merged (queues_with_last_pushed queues owner queue k)) j = λ j h. elim
      ((joined_list_has-append (interval_queues_merged queues) (k ∷ []) j).0 h) [
        | inl old ↦ lies_merged (queues_with_last_pushed queues owner queue k) (count + 1) are_pushed j
            (lies_pushed j (merged_lies queues j old))
        | inr new ↦ elim ((joined_list_has-cons k [] j).0 new) [
          | inl e ↦ rw (← e) (lies_merged (queues_with_last_pushed queues owner queue k) (count + 1) are_pushed k last_pushed_lies_in_merged)
          | inr none ↦ absurd (joined_list_has-nil j none)
        ]
      ] in
      same_rising_by_place (interval_queues_merged (queues_with_last_pushed queues owner queue k)) (interval_queues_merged queues ++ k ∷ [])
      (rises-merged (queues_with_last_pushed queues owner queue k)) (rises-push (interval_queues_merged queues) k (rises-merged queues) below)
      to from

  pub last_pushed_keeps_first : map (λ (q : IntervalQueue). q.first) (queues_with_last_pushed queues owner queue k)
      ≡ map (λ (q : IntervalQueue). q.first) queues
  last_pushed_keeps_first =
      let at = get_or_from_slice_get queues owner queue queue comes.owned in
      let same = set-get_or queues owner queue in
      let old : set queues owner queue ≡ queues = rw at at same in
      map-set (λ (q : IntervalQueue). q.first) queues owner (queue_with_last_pushed queue k)
      ∙ sym (map-set (λ (q : IntervalQueue). q.first) queues owner queue) ∙ ap (map (λ (q : IntervalQueue). q.first)) old

  pub last_pushed_next : map (λ (q : IntervalQueue). q.first + length q.kept) (queues_with_last_pushed queues owner queue k)
      ≡ set (map (λ (q : IntervalQueue). q.first + length q.kept) queues) owner (k.interval.number + 1)
  last_pushed_next =
      let long = length_push queue.kept k in
      let number = comes.number_is in
      let last : queue.first + length (queue.kept ++ k ∷ []) ≡ k.interval.number + 1 = omega arith in
      map-set (λ (q : IntervalQueue). q.first + length q.kept) queues owner (queue_with_last_pushed queue k)
      ∙ ap (set (map (λ (q : IntervalQueue). q.first + length q.kept) queues) owner) last

-- the owner's entry of a list that has one for each queue
pub last_pushed_entry : (f : IntervalQueue → ℕ) (queues : List IntervalQueue) (owner : ℕ) (queue : IntervalQueue) → slice_get queues owner ≡ Some queue
    → slice_index (map f queues) owner ≡ f queue
last_pushed_entry f [] owner queue at = absurd (cc at)
last_pushed_entry f (q ∷ qs) zero queue at = ap f (cc at)
last_pushed_entry f (q ∷ qs) (suc owner) queue at = last_pushed_entry f qs owner queue at

-- it is what `push` requires: the owner's next one, and not one too many
pub record MayBePushedLast (value : KeptClosings) (i : ClosedInterval) : Type 0 where
  pub owner : i.owner < length value.next
  pub number : i.number ≡ slice_index value.next i.owner
  pub pages : SentIntervalPagesRise i.records
  pub fits : value.pushed < 2 ^ 64 - 1

-- so it is the next one of its queue
pub pushed_next : {queues : List IntervalQueue} {count : ℕ} {value : KeptClosings} {i : ClosedInterval} {owner : ℕ} {queue : IntervalQueue}
    → MergedQueuesHold queues count value → MayBePushedLast value i → owner ≡ i.owner → queue ≡ get_or queues owner queue
    → ComesLastPushed queues count owner queue (record { place = count; interval = i })
pushed_next {queues} {count} {value} {i} {owner} {queue} hold next same read =
    let nexts : map (λ (q : IntervalQueue). q.first + length q.kept) queues ≡ value.next = ap (λ (c : KeptClosings). c.next) hold.seen in
    let long = length-map queues (λ (q : IntervalQueue). q.first + length q.kept) in
    let longs = ap length nexts in
    let in_range = next.owner in
    let last_pushed_inside : owner < length queues = omega arith in
    let owned : slice_get queues owner ≡ Some queue =
    slice_get_read queues (length queues) owner queue refl last_pushed_inside read in
    let entry = last_pushed_entry (λ (q : IntervalQueue). q.first + length q.kept) queues owner queue owned in
    let number : i.number ≡ queue.first + length queue.kept =
    next.number ∙ ap (slice_index value.next) (sym same) ∙ ap (λ (ns : List ℕ). slice_index ns owner) (sym nexts)
    ∙ entry in
    let pushed_is = ap (λ (c : KeptClosings). c.pushed) hold.seen in
    let few = next.fits in
    record {
      owned = owned;
      owner_is = sym same;
      number_is = number;
      place_is = refl;
      fits = omega arith;
      pages = next.pages;
    }

-- and `push` then does what it says
pub last_pushed_closings : {queues : List IntervalQueue} {count : ℕ} {value : KeptClosings} {owner : ℕ} {queue : IntervalQueue}
    → MergedQueuesHold queues count value → (i : ClosedInterval)
    → ComesLastPushed queues count owner queue (record { place = count; interval = i })
    → interval_queue_closings (queues_with_last_pushed queues owner queue (record { place = count; interval = i })) (count + 1) ≡ kept_closings_pushed value i
last_pushed_closings {queues} {count} {value} {owner} {queue} hold i comes =
    let k : KeptInterval = record { place = count; interval = i } in
    let kepts = last_pushed_merged queues count owner queue k hold.are comes in
    let firsts = last_pushed_keeps_first queues count owner queue k hold.are comes in
    let nexts = last_pushed_next queues count owner queue k hold.are comes in
    let now : interval_queue_closings (queues_with_last_pushed queues owner queue k) (count + 1) ≡ kept_closings_pushed (interval_queue_closings queues count) i =
    rw (kepts, firsts, nexts, comes.owner_is) refl in
    now ∙ ap (λ (c : KeptClosings). kept_closings_pushed c i) hold.seen
