-- The news of all owners, owner by owner: as much as in closing order.
use Rattle.std.proofs.Common.{◌≡◌, ◌≢◌, ℕ, zero, suc, ◌+◌, ◌-◌, ◌<◌, ◌≤◌, ◌==◌, min, nat_lt, Bool, true, false, cond, inl, inr, Some, List, [], ◌∷◌, map, filter, take, drop, count_by, length, get_or, length-drop, length-take, slice_get, slice_index, refl, sym, ap, ap₂, subst, arith, ◌∙◌}
use Rattle.std.specs.List.{flat_map, sum_by}
use Rattle.std.proofs.lemmas.Bool.{cases_Bool, cases_lt, cond_both, cond-true, cond-false, and_from, and_left, and_right, ltb-false, lt-ltb, le-ltb, le-leb, lt-leb}
use Rattle.std.proofs.lemmas.List.{get_or-drop, get_or-take}
use Rattle.std.proofs.lemmas.Option.{get_or_from_slice_get}
use Rattle.std.proofs.lemmas.List.Sums.{sum_by-cons, sum_by-append}
use Rattle.base.specs.InOrderOnce.{Has, InOrder}
use Rattle.base.proofs.SlicesAndCounts.{slice_count_by-append}
use Rattle.base.proofs.JoinedLists.{joined_list_in_order_tail, joined_list_in_weaker_order, joined_list_in_order-flat_map}
use Rattle.page.specs.PageChanges.{PageChanges}
use Rattle.interval.specs.declared.interval.KeptInterval.{KeptInterval}
use Rattle.interval.specs.SentIntervals.{SentRecord}
use Rattle.interval.specs.KeptClosings.{KeptClosings, is_news_of_kept_closings, kept_closing_sent_record, kept_closing_sent_interval, is_kept_closing_of_page, kept_closings_between}
use Rattle.interval.specs.PageCounts.{counted_pages_of_changes, counted_pages_of, PageCountsHaveRoom}
use Rattle.interval.specs.IntervalQueues.{IntervalQueue, interval_queue_placed, interval_queue_by_place, interval_queues_merged, interval_queue_within, IsIntervalQueue, AreIntervalQueues}
use Rattle.interval.proofs.Order.RisingByPlace.{has-rising_by_place}
use Rattle.interval.proofs.Records.ReadItems.{ReadsItem, got_item}
use Rattle.interval.proofs.Queues.Merged.{MergedQueuesHold}
use Rattle.interval.proofs.Counts.MostNotices.{most_notices_fit}

-- of intervals that are numbered from `first` on, the news are those from one number up to another
walked_news_numbered : (ks : List KeptInterval) (first owner : ℕ) (old new : List ℕ)
    → ((i : ℕ) (k : KeptInterval) → slice_get ks i ≡ Some k → (k.interval.owner ≡ owner) × (k.interval.number ≡ first + i))
    → filter (is_news_of_kept_closings old new) ks ≡ drop (slice_index old owner - first) (take (slice_index new owner - first) ks)
walked_news_numbered [] first owner old new numbered =
    sym (nothing (slice_index old owner - first) (slice_index new owner - first))
  where
    nothing : (n m : ℕ) → drop n (take {A = KeptInterval} m []) ≡ []
    nothing zero zero = refl
    nothing zero (suc m) = refl
    nothing (suc n) zero = refl
    nothing (suc n) (suc m) = refl
walked_news_numbered (k ∷ ks) first owner old new numbered =
    let from : ℕ = slice_index old owner in
    let to : ℕ = slice_index new owner in
    let here = numbered 0 k refl in
    let number : k.interval.number ≡ first = let at = here.1 in omega arith in
    let old_at : slice_index old k.interval.owner ≡ from = ap (slice_index old) here.0 in
    let new_at : slice_index new k.interval.owner ≡ to = ap (slice_index new) here.0 in
    let rest =
    walked_news_numbered ks (suc first) owner old new
    (λ i j at. let q = numbered (suc i) j at in let at_i = q.1 in (q.0, omega arith)) in
    let skipped : is_news_of_kept_closings old new k ≡ false
    → filter (is_news_of_kept_closings old new) (k ∷ ks) ≡ drop (from - suc first) (take (to - suc first) ks) = λ none.
    cond-false (is_news_of_kept_closings old new k) (k ∷ filter (is_news_of_kept_closings old new) ks) (filter (is_news_of_kept_closings old new) ks) none ∙ rest in
    elim (cases_lt first to) [
      | inr past ↦
          let none : is_news_of_kept_closings old new k ≡ false =
          and_right _ _ (le-ltb k.interval.number (slice_index new k.interval.owner) (omega arith)) in
          let end : to - suc first ≡ 0 = omega arith in
          let now : to - first ≡ 0 = omega arith in
          skipped none ∙ ap (λ (n : ℕ). drop (from - suc first) (take n ks)) end ∙ nothing (from - suc first) ks
          ∙ sym (nothing (from - first) (k ∷ ks))
          ∙ ap (λ (n : ℕ). drop (from - first) (take n (k ∷ ks))) (sym now)
      | inl before ↦
          let more : to - first ≡ suc (to - suc first) = omega arith in
          elim (cases_lt first from) [
            | inl below ↦
                let none : is_news_of_kept_closings old new k ≡ false =
                and_left _ _ (lt-leb (slice_index old k.interval.owner) k.interval.number (omega arith)) in
                let start : from - first ≡ suc (from - suc first) = omega arith in
                skipped none ∙ sym (ap₂ (λ (a b : ℕ). drop a (take b (k ∷ ks))) start more)
            | inr above ↦
                let is : is_news_of_kept_closings old new k ≡ true =
                and_from _ _ (le-leb (slice_index old k.interval.owner) k.interval.number (omega arith))
                (lt-ltb k.interval.number (slice_index new k.interval.owner) (omega arith)) in
                let start : from - first ≡ 0 = omega arith in
                let later : from - suc first ≡ 0 = omega arith in
                cond-true (is_news_of_kept_closings old new k) (k ∷ filter (is_news_of_kept_closings old new) ks) (filter (is_news_of_kept_closings old new) ks) is
                ∙ ap (λ (js : List KeptInterval). k ∷ js) (rest ∙ ap (λ (a : ℕ). drop a (take (to - suc first) ks)) later)
                ∙ sym (ap₂ (λ (a b : ℕ). drop a (take b (k ∷ ks))) start more)
          ]
    ]
  where
    nothing : (n : ℕ) (js : List KeptInterval) → drop n (take 0 js) ≡ []
    nothing zero js = refl
    nothing (suc n) js = refl

-- the news in a queue
pub walked_news_of_queue : (owner count : ℕ) (queue : IntervalQueue) (old new : List ℕ) → IsIntervalQueue owner count queue
    → filter (is_news_of_kept_closings old new) queue.kept ≡ interval_queue_within queue (slice_index old owner) (slice_index new owner)
walked_news_of_queue owner count queue old new is =
    walked_news_numbered queue.kept queue.first owner old new (λ i k at. let q = is.each i k at in (q.owner_is, q.number_is))

-- an interval of a queue that is numbered within from..to, counted from the first such one
pub walked_news_within : {held queue : IntervalQueue} {k : KeptInterval} → (from to i : ℕ) → held ≡ queue → from - held.first ≤ i
    → i < min (to - held.first) (length held.kept) → k ≡ get_or held.kept i k
    → ReadsItem (interval_queue_within queue from to) (i - (from - held.first)) k
walked_news_within {held} {queue} {k} from to i same after before is =
    let ks = held.kept in
    let start : ℕ = from - held.first in
    let long = length-drop start (take (to - held.first) ks) in
    let front = length-take (to - held.first) ks in
    let place : start + (i - start) ≡ i = omega arith in
    let P : IntervalQueue → Type 0 = λ q. ReadsItem (interval_queue_within q from to) (i - start) k in
    let reads : P held = record {
      inside = omega arith;
      is =
          is ∙ sym (get_or-take (to - held.first) ks i k (omega arith))
          ∙ ap (λ (n : ℕ). get_or (take (to - held.first) ks) n k) (sym place)
          ∙ sym (get_or-drop start (take (to - held.first) ks) (i - start) k);
    } in
    subst P same reads

-- the pages of the news of a queue
abbrev pub walked_news_pages : List ℕ → List ℕ → IntervalQueue → List ℕ
walked_news_pages old new queue = counted_pages_of (filter (is_news_of_kept_closings old new) queue.kept)

-- `interval_queue_placed` adds an interval whose closing number is new
sum_by-placed_walked_news : (w : KeptInterval → ℕ) (k : KeptInterval) (xs : List KeptInterval) → ((j : KeptInterval) → Has xs j → k.place ≢ j.place)
    → sum_by w (interval_queue_placed k xs) ≡ w k + sum_by w xs
sum_by-placed_walked_news w k [] apart = sum_by-cons w k []
sum_by-placed_walked_news w k (x ∷ xs) apart =
    let P : List KeptInterval → Type 0 = λ ys. sum_by w ys ≡ w k + sum_by w (x ∷ xs) in
    let rest = sum_by-placed_walked_news w k xs (λ j h. apart j (suc h.0, h.1)) in
    let last = sum_by-cons w x xs in
    let later = sum_by-cons w x (interval_queue_placed k xs) in
    cond_both (nat_lt k.place x.place) (k ∷ x ∷ xs) (cond (nat_lt x.place k.place) (x ∷ interval_queue_placed k xs) (x ∷ xs)) P
    (λ e. sum_by-cons w k (x ∷ xs))
    (λ e. cond_both (nat_lt x.place k.place) (x ∷ interval_queue_placed k xs) (x ∷ xs) P (λ f. omega arith)
    (λ f. let le = ltb-false _ _ e in let ge = ltb-false _ _ f in absurd (apart x (0, refl) (omega arith))))

-- each closing number stands for one interval
abbrev AreWalkedNewsApart : List KeptInterval → Type 0
AreWalkedNewsApart xs = InOrder (λ (j k : KeptInterval). j.place ≢ k.place) xs

sum_by-walked_news_by_place : (w : KeptInterval → ℕ) (xs : List KeptInterval) → AreWalkedNewsApart xs → sum_by w (interval_queue_by_place xs) ≡ sum_by w xs
sum_by-walked_news_by_place w [] apart = refl
sum_by-walked_news_by_place w (x ∷ xs) apart =
    let rest = sum_by-walked_news_by_place w xs (joined_list_in_order_tail (λ (j k : KeptInterval). j.place ≢ k.place) x xs apart) in
    let first =
    sum_by-placed_walked_news w x (interval_queue_by_place xs)
    (λ j h. let at = has-rising_by_place xs j h in apart 0 (suc at.0) x j (omega arith) refl at.1) in
    let all = sum_by-cons w x xs in
    omega arith

walked_news_queues_apart : (queues : List IntervalQueue) (count : ℕ) → AreIntervalQueues queues count
    → AreWalkedNewsApart (flat_map (λ (q : IntervalQueue). q.kept) queues)
walked_news_queues_apart queues count are =
    joined_list_in_order-flat_map (λ (j k : KeptInterval). j.place ≢ k.place) (λ (q : IntervalQueue). q.kept) queues
    (λ q has. joined_list_in_weaker_order (λ (j k : KeptInterval). j.place < k.place) (λ (j k : KeptInterval). j.place ≢ k.place) q.kept
    (λ j k h g lt e. absurd (omega arith)) (are.each has.0 q has.1).rising)
    (λ x y a b less at_x at_y j k h g same. let one = are.apart x y a b j k at_x at_y h g same in absurd (omega arith))

-- how often an interval that is news has the page
walked_news_weight : List ℕ → List ℕ → ℕ → KeptInterval → ℕ
walked_news_weight old new n k = cond (is_news_of_kept_closings old new k) (count_by (λ (p : ℕ). p == n) (counted_pages_of_changes k.interval.records)) 0

-- pages of the news, counted interval by interval
count_walked_news : (old new : List ℕ) (n : ℕ) (ks : List KeptInterval)
    → count_by (λ (p : ℕ). p == n) (counted_pages_of (filter (is_news_of_kept_closings old new) ks)) ≡ sum_by (walked_news_weight old new n) ks
unfolding walked_news_weight
count_walked_news old new n [] = refl
count_walked_news old new n (k ∷ ks) =
    let test : ℕ → Bool = λ p. p == n in
    let rest = count_walked_news old new n ks in
    let all = sum_by-cons (walked_news_weight old new n) k ks in
    let both = slice_count_by-append test (counted_pages_of_changes k.interval.records) (counted_pages_of (filter (is_news_of_kept_closings old new) ks)) in
    let own : ℕ = count_by test (counted_pages_of_changes k.interval.records) in
    elim (cases_Bool (is_news_of_kept_closings old new k)) [
      | inl is ↦
          let now =
          ap (λ (b : Bool). count_by test
          (counted_pages_of (cond b (k ∷ filter (is_news_of_kept_closings old new) ks) (filter (is_news_of_kept_closings old new) ks))))
          is in
          let one = ap (λ (b : Bool). cond b own 0) is in
          omega arith
      | inr isnt ↦
          let now =
          ap (λ (b : Bool). count_by test
          (counted_pages_of (cond b (k ∷ filter (is_news_of_kept_closings old new) ks) (filter (is_news_of_kept_closings old new) ks))))
          isnt in
          let none = ap (λ (b : Bool). cond b own 0) isnt in
          omega arith
    ]

count_walked_news_of_queues : (old new : List ℕ) (n : ℕ) (queues : List IntervalQueue)
    → count_by (λ (p : ℕ). p == n) (flat_map (walked_news_pages old new) queues)
    ≡ sum_by (walked_news_weight old new n) (flat_map (λ (q : IntervalQueue). q.kept) queues)
count_walked_news_of_queues old new n [] = refl
count_walked_news_of_queues old new n (q ∷ qs) =
    slice_count_by-append (λ (p : ℕ). p == n) (walked_news_pages old new q) (flat_map (walked_news_pages old new) qs)
    ∙ ap₂ (λ (a b : ℕ). a + b) (count_walked_news old new n q.kept) (count_walked_news_of_queues old new n qs)
    ∙ sym (sum_by-append (walked_news_weight old new n) q.kept (flat_map (λ (q : IntervalQueue). q.kept) qs))

-- notices of a page are records for it
count_walked_news_sent : (n : ℕ) (k : KeptInterval) (rs : List PageChanges)
    → count_by (is_kept_closing_of_page n) (map (kept_closing_sent_record k) rs) ≡ count_by (λ (p : ℕ). p == n) (counted_pages_of_changes rs)
count_walked_news_sent n k [] = refl
count_walked_news_sent n k (r ∷ rs) =
    let rest = count_walked_news_sent n k rs in
    let sent =
    sum_by-cons (λ (s : SentRecord). cond (is_kept_closing_of_page n s) 1 0) (kept_closing_sent_record k r) (map (kept_closing_sent_record k) rs) in
    let pages = sum_by-cons (λ (p : ℕ). cond (p == n) 1 0) r.page (counted_pages_of_changes rs) in
    omega arith

count_walked_news_notices : (n : ℕ) (ks : List KeptInterval)
    → count_by (is_kept_closing_of_page n) (flat_map kept_closing_sent_interval ks) ≡ count_by (λ (p : ℕ). p == n) (counted_pages_of ks)
count_walked_news_notices n [] = refl
count_walked_news_notices n (k ∷ ks) =
    slice_count_by-append (is_kept_closing_of_page n) (kept_closing_sent_interval k) (flat_map kept_closing_sent_interval ks)
    ∙ ap₂ (λ (a b : ℕ). a + b) (count_walked_news_sent n k k.interval.records) (count_walked_news_notices n ks)
    ∙ sym (slice_count_by-append (λ (p : ℕ). p == n) (counted_pages_of_changes k.interval.records) (counted_pages_of ks))

-- owner by owner there are as many notices of a page as in closing order
pub walked_news_counted : (queues : List IntervalQueue) (count : ℕ) (old new : List ℕ) (n : ℕ) → AreIntervalQueues queues count
    → count_by (λ (p : ℕ). p == n) (flat_map (walked_news_pages old new) queues)
    ≡ count_by (is_kept_closing_of_page n) (flat_map kept_closing_sent_interval (filter (is_news_of_kept_closings old new) (interval_queues_merged queues)))
walked_news_counted queues count old new n are =
    count_walked_news_of_queues old new n queues
    ∙ sym
    (sum_by-walked_news_by_place (walked_news_weight old new n) (flat_map (λ (q : IntervalQueue). q.kept) queues) (walked_news_queues_apart queues count are))
    ∙ sym (count_walked_news old new n (interval_queues_merged queues))
    ∙ sym (count_walked_news_notices n (filter (is_news_of_kept_closings old new) (interval_queues_merged queues)))

-- a loop reads an owner's queue, and the entries for it of two timestamps
pub record ReadsQueueOfWalkedNews (queues : List IntervalQueue) (old new : List ℕ) (owner from to : ℕ) (queue : IntervalQueue) : Type 0 where
  pub reads : ReadsItem queues owner queue
  pub old_at : slice_get old owner ≡ Some from
  pub new_at : slice_get new owner ≡ Some to

-- its news are those between the entries
pub walked_news_read : {queues : List IntervalQueue} {count : ℕ} {old new : List ℕ} {owner from to : ℕ} {queue : IntervalQueue}
    → AreIntervalQueues queues count → ReadsQueueOfWalkedNews queues old new owner from to queue
    → filter (is_news_of_kept_closings old new) queue.kept ≡ interval_queue_within queue from to
walked_news_read {queues} {count} {old} {new} {owner} {from} {to} {queue} are r =
    walked_news_of_queue owner count queue old new (are.each owner queue (got_item r.reads))
    ∙ ap₂ (λ (a b : ℕ). interval_queue_within queue a b) (get_or_from_slice_get old owner from 0 r.old_at)
    (get_or_from_slice_get new owner to 0 r.new_at)

-- all of it is what `between` has of a page
pub walked_news_total : {queues : List IntervalQueue} {count : ℕ} {value : KeptClosings} → MergedQueuesHold queues count value → (old new : List ℕ)
    (n : ℕ)
    → count_by (λ (p : ℕ). p == n) (flat_map (walked_news_pages old new) queues)
    ≡ count_by (is_kept_closing_of_page n) (kept_closings_between value old new)
walked_news_total {queues} {count} hold old new n =
    walked_news_counted queues count old new n hold.are
    ∙ ap (λ (v : KeptClosings). count_by (is_kept_closing_of_page n) (kept_closings_between v old new)) hold.seen

-- the counts have room for all of it
pub walked_news_room : {queues : List IntervalQueue} {count : ℕ} {value : KeptClosings} → MergedQueuesHold queues count value → (base : ℕ)
    (old new counts : List ℕ) → ((i : ℕ) → i < length counts → slice_index counts i ≡ 0)
    → PageCountsHaveRoom base (flat_map (walked_news_pages old new) queues) counts
walked_news_room hold base old new counts zeros i inside =
    let few = hold.are.few in
    let none = zeros i inside in
    let all = walked_news_total hold old new (base + i) in
    let most = most_notices_fit hold (base + i) old new in
    omega arith
