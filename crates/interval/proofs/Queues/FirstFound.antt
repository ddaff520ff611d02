-- What is found in the merged list by owner and number.
use Rattle.std.proofs.Common.{◌≡◌, ℕ, zero, suc, ◌<◌, ◌≤◌, ◌+◌, ◌-◌, Bool, true, ◌==◌, inl, inr, Option, Some, None, List, [], ◌∷◌, map, find, slice_get, get_or, length, refl, sym, ap, subst, arith, ◌∙◌}
use Rattle.std.specs.Option.{MatchOption, option_and_then}
use Rattle.std.proofs.lemmas.Bool.{cases_order, cases_Bool, and_parts, and_from, eqb-true, eq-eqb}
use Rattle.std.proofs.lemmas.Option.{slice_get_within, slice_get-get_or, slice_get_read}
use Rattle.page.specs.PageChanges.{PageChanges}
use Rattle.interval.specs.declared.notice.Notice.{Notice}
use Rattle.interval.specs.declared.interval.KeptInterval.{KeptInterval}
use Rattle.interval.specs.KeptClosings.{KeptClosings, is_noticed_kept_closing, record_of}
use Rattle.interval.specs.IntervalQueues.{IntervalQueue, interval_queues_merged, AreIntervalQueues}
use Rattle.base.specs.InOrderOnce.{Has}
use Rattle.base.proofs.Filters.{filter_find_none}
use Rattle.interval.proofs.Order.Least.{find_least}
use Rattle.interval.proofs.Queues.Merged.{MergedQueuesHold, LiesInMerged, merged_lies, lies_merged, rises-merged, merged_queue_interval}

-- an owner's interval lies in the owner's queue
pub first_found_in_own_queue : (queues : List IntervalQueue) (count : ℕ) → AreIntervalQueues queues count → (k : KeptInterval) → LiesInMerged queues k
    → (owner : ℕ) → k.interval.owner ≡ owner → (queue : IntervalQueue) → slice_get queues owner ≡ Some queue
    → (i : ℕ) × (slice_get queue.kept i ≡ Some k)
first_found_in_own_queue queues count are k l owner is queue owned =
    let q = merged_queue_interval queues count are k l in
    let same : l.owner ≡ owner = sym q.owner_is ∙ is in
    let queue_is : l.queue ≡ queue =
    let there : slice_get queues owner ≡ Some l.queue = ap (slice_get queues) (sym same) ∙ l.owned in
    cc (there, owned) in
    (l.index, ap (λ (q : IntervalQueue). slice_get q.kept l.index) (sym queue_is) ∙ l.at)

-- the first of the owner's intervals in closing order is the first of its queue
pub first_found_of_owner : (queues : List IntervalQueue) (count owner : ℕ) (queue : IntervalQueue) → AreIntervalQueues queues count
    → slice_get queues owner ≡ Some queue
    → find (λ (k : KeptInterval). k.interval.owner == owner) (interval_queues_merged queues) ≡ slice_get queue.kept 0
first_found_of_owner queues count owner queue are owned =
    let test : KeptInterval → Bool = λ k. k.interval.owner == owner in
    let go : (o : Option KeptInterval) → slice_get queue.kept 0 ≡ o
    → find test (interval_queues_merged queues)
    ≡ o = λ o. elim o as (λ (o : Option KeptInterval). slice_get queue.kept 0 ≡ o → find test (interval_queues_merged queues) ≡ o) [
      | None ↦ λ e. filter_find_none test (interval_queues_merged queues) (λ j h. elim (cases_Bool (test j)) [
        | inl t ↦
            let at = first_found_in_own_queue queues count are j (merged_lies queues j h) owner (eqb-true _ _ t) queue owned in
            let within = slice_get_within queue.kept at.0 j at.1 in
            let there = slice_get-get_or queue.kept 0 j (omega arith) in
            cc
        | inr f ↦ f
      ])
      | Some k ↦ λ e.
          let l : LiesInMerged queues k = record { owner = owner; queue = queue; index = 0; owned = owned; at = e } in
          let is = (merged_queue_interval queues count are k l).owner_is in
          find_least test (interval_queues_merged queues) k (rises-merged queues) (lies_merged queues count are k l) (eq-eqb _ _ is)
          (λ j h t.
          let at = first_found_in_own_queue queues count are j (merged_lies queues j h) owner (eqb-true _ _ t) queue owned in
          elim (cases_order 0 at.0) [
            | inl same ↦ let there : slice_get queue.kept 0 ≡ Some j = ap (slice_get queue.kept) same ∙ at.1 in
                let one : k ≡ j = cc (e, there) in let place = ap (λ (z : KeptInterval). z.place) one in omega arith
            | inr other ↦ elim other [
              | inl before ↦ let rises = (are.each owner queue owned).rising 0 at.0 k j before e at.1 in omega arith
              | inr after ↦ absurd (omega arith)
            ]
          ])
    ] in
    go (slice_get queue.kept 0) refl

-- what `first` answers is the number of that interval, or the owner's next number
pub first_found_number : {queues : List IntervalQueue} {count : ℕ} {value : KeptClosings} {queue : IntervalQueue} {n : ℕ} → (owner : ℕ)
    → MergedQueuesHold queues count value → slice_get queues owner ≡ Some queue → n ≡ queue.first
    → MatchOption (find (λ (k : KeptInterval). k.interval.owner == owner) value.kept) (slice_get value.next owner ≡ Some n)
    (λ k. k.interval.number ≡ n)
first_found_number {queues} {count} {value} {queue} {n} owner hold owned n_is =
    let are = hold.are in
    let kepts : interval_queues_merged queues ≡ value.kept = ap (λ (c : KeptClosings). c.kept) hold.seen in
    let nexts : map (λ (q : IntervalQueue). q.first + length q.kept) queues ≡ value.next = ap (λ (c : KeptClosings). c.next) hold.seen in
    let go : (o : Option KeptInterval) → slice_get queue.kept 0 ≡ o
    → MatchOption o (slice_get value.next owner ≡ Some n) (λ k. k.interval.number ≡ n) = λ o. elim o as (λ
    (o : Option KeptInterval). slice_get queue.kept 0
    ≡ o
    → MatchOption o (slice_get value.next owner ≡ Some n) (λ k. k.interval.number ≡ n)) [
      | None ↦ λ e.
          let none : length queue.kept ≡ 0 = empty queue.kept e in
          let entry : slice_get (map (λ (q : IntervalQueue). q.first + length q.kept) queues) owner
          ≡ Some (queue.first + length queue.kept) =
          got (λ (q : IntervalQueue). q.first + length q.kept) queues owner queue owned in
          let number : queue.first + length queue.kept ≡ n = omega arith in
          ap (λ (ns : List ℕ). slice_get ns owner) (sym nexts) ∙ entry ∙ ap Some number
      | Some k ↦ λ e. let number = ((are.each owner queue owned).each 0 k e).number_is in omega arith
    ] in
    let P : Option KeptInterval → Type 0 =
    λ o. MatchOption o (slice_get value.next owner ≡ Some n) (λ k. k.interval.number ≡ n) in
    subst P (sym (first_found_of_owner queues count owner queue are owned)
    ∙ ap (find (λ (k : KeptInterval). k.interval.owner == owner)) kepts)
    (go (slice_get queue.kept 0) refl)
  where
    empty : (ks : List KeptInterval) → slice_get ks 0 ≡ None → length ks ≡ 0
    empty [] e = refl
    empty (k ∷ ks) e = absurd (cc e)

    got : (f : IntervalQueue → ℕ) (queues : List IntervalQueue) (owner : ℕ) (queue : IntervalQueue) → slice_get queues owner ≡ Some queue
        → slice_get (map f queues) owner ≡ Some (f queue)
    got f [] owner queue at = absurd (cc at)
    got f (q ∷ qs) zero queue at = let same : q ≡ queue = cc at in ap (λ (q : IntervalQueue). Some (f q)) same
    got f (q ∷ qs) (suc owner) queue at = got f qs owner queue at

-- no such owner
pub first_found_none_without_owner : (queues : List IntervalQueue) (count : ℕ) (n : Notice) → AreIntervalQueues queues count → length queues ≤ n.owner
    → find (is_noticed_kept_closing n) (interval_queues_merged queues) ≡ None
first_found_none_without_owner queues count n are past =
    filter_find_none (is_noticed_kept_closing n) (interval_queues_merged queues) (λ j h. elim (cases_Bool (is_noticed_kept_closing n j)) [
      | inl t ↦
          let l = merged_lies queues j h in
          let owner = (merged_queue_interval queues count are j l).owner_is in
          let is : j.interval.owner ≡ n.owner = eqb-true _ _ (and_parts _ _ t).0 in
          let within = slice_get_within queues l.owner l.queue l.owned in
          absurd (omega arith)
      | inr f ↦ f
    ])

-- the interval of a notice is found in its owner's queue, by its number
pub first_found_by_notice : (queues : List IntervalQueue) (count : ℕ) (n : Notice) (queue : IntervalQueue) → AreIntervalQueues queues count
    → slice_get queues n.owner ≡ Some queue → queue.first ≤ n.number
    → find (is_noticed_kept_closing n) (interval_queues_merged queues) ≡ slice_get queue.kept (n.number - queue.first)
first_found_by_notice queues count n queue are owned from =
    let i : ℕ = n.number - queue.first in
    let found_at : (j : KeptInterval) → Has (interval_queues_merged queues) j → is_noticed_kept_closing n j ≡ true
    → slice_get queue.kept i ≡ Some j = λ j h t.
    let parts = and_parts _ _ t in
    let at = first_found_in_own_queue queues count are j (merged_lies queues j h) n.owner (eqb-true _ _ parts.0) queue owned in
    let number = ((are.each n.owner queue owned).each at.0 j at.1).number_is in
    let is : j.interval.number ≡ n.number = eqb-true _ _ parts.1 in
    let index : at.0 ≡ i = omega arith in
    ap (slice_get queue.kept) (sym index) ∙ at.1 in
    let go : (o : Option KeptInterval) → slice_get queue.kept i ≡ o
    → find (is_noticed_kept_closing n) (interval_queues_merged queues)
    ≡ o = λ o. elim o as
    (λ (o : Option KeptInterval). slice_get queue.kept i ≡ o → find (is_noticed_kept_closing n) (interval_queues_merged queues) ≡ o) [
      | None ↦ λ e. filter_find_none (is_noticed_kept_closing n) (interval_queues_merged queues)
          (λ j h. elim (cases_Bool (is_noticed_kept_closing n j)) [ inl t ↦ let there = found_at j h t in cc | inr f ↦ f ])
      | Some k ↦ λ e.
          let l : LiesInMerged queues k = record { owner = n.owner; queue = queue; index = i; owned = owned; at = e } in
          let q = merged_queue_interval queues count are k l in
          let number = q.number_is in
          let is : k.interval.number ≡ n.number = omega arith in
          find_least (is_noticed_kept_closing n) (interval_queues_merged queues) k (rises-merged queues) (lies_merged queues count are k l)
          (and_from _ _ (eq-eqb _ _ q.owner_is) (eq-eqb _ _ is))
          (λ j h t. let there = found_at j h t in let one : k ≡ j = cc (e, there) in
          let place = ap (λ (z : KeptInterval). z.place) one in omega arith)
    ] in
    go (slice_get queue.kept i) refl

-- no interval has a number below the first one that is kept
pub first_found_none_below : (queues : List IntervalQueue) (count : ℕ) (n : Notice) (queue : IntervalQueue) → AreIntervalQueues queues count
    → slice_get queues n.owner ≡ Some queue → n.number < queue.first
    → find (is_noticed_kept_closing n) (interval_queues_merged queues) ≡ None
first_found_none_below queues count n queue are owned below =
    filter_find_none (is_noticed_kept_closing n) (interval_queues_merged queues) (λ j h. elim (cases_Bool (is_noticed_kept_closing n j)) [
      | inl t ↦
          let parts = and_parts _ _ t in
          let at =
          first_found_in_own_queue queues count are j (merged_lies queues j h) n.owner (eqb-true _ _ parts.0) queue owned in
          let number = ((are.each n.owner queue owned).each at.0 j at.1).number_is in
          let is : j.interval.number ≡ n.number = eqb-true _ _ parts.1 in
          absurd (omega arith)
      | inr f ↦ f
    ])

-- of the interval that is found, the record for the page
pub first_found_record : {queues : List IntervalQueue} {count : ℕ} {value : KeptClosings} {o : Option KeptInterval}
    → MergedQueuesHold queues count value → (n : Notice) → find (is_noticed_kept_closing n) (interval_queues_merged queues) ≡ o
    → record_of value n
    ≡ option_and_then (λ (k : KeptInterval). find (λ (r : PageChanges). r.page == n.page) k.interval.records) o
first_found_record {queues} {value = value} hold n found =
    let kepts : value.kept ≡ interval_queues_merged queues = ap (λ (c : KeptClosings). c.kept) (sym hold.seen) in
    ap (λ (ks : List KeptInterval). option_and_then
    (λ (k : KeptInterval). find (λ (r : PageChanges). r.page == n.page) k.interval.records) (find (is_noticed_kept_closing n) ks))
    kepts
    ∙ ap (option_and_then (λ (k : KeptInterval). find (λ (r : PageChanges). r.page == n.page) k.interval.records)) found

-- the owner's queue, as it is read from a slice of the queues
pub first_found_queue_read : (queues items : List IntervalQueue) (o : ℕ) (queue : IntervalQueue) → items ≡ queues → o < length items
    → queue ≡ get_or items o queue → slice_get queues o ≡ Some queue
first_found_queue_read queues items o queue same inside read =
    ap (λ (qs : List IntervalQueue). slice_get qs o) (sym same) ∙ slice_get_read items (length items) o queue refl inside read
