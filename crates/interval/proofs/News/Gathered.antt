-- The news of all queues, owner by owner.
use Rattle.std.proofs.Common.{◌≡◌, ◌≢◌, ◌↔◌, ℕ, ◌<◌, ◌≤◌, ◌+◌, ◌-◌, nat_lt, Bool, true, false, cond, Some, List, [], ◌∷◌, ◌++◌, filter, map, take, get_or, slice_get, length, length-drop, length-take, min, refl, sym, ap, ap₂, subst, arith, ◌∙◌}
use Rattle.std.specs.List.{flat_map}
use Rattle.std.proofs.lemmas.Bool.{cond_both, ltb-false}
use Rattle.std.proofs.lemmas.List.{append-nil, append_assoc, length-map, map-append, take_all}
use Rattle.std.proofs.lemmas.Grind.{flat_map-append}
use Rattle.std.proofs.lemmas.Option.{slice_get_read}
use Rattle.base.specs.InOrderOnce.{Has, InOrder}
use Rattle.base.proofs.JoinedLists.{joined_list_has-flat_map, joined_list_in_order-flat_map, joined_list_in_weaker_order}
use Rattle.base.proofs.FilteredInOrder.{filtered_in_order_has, in_order-filter}
use Rattle.page.specs.PageChanges.{PageChanges}
use Rattle.interval.specs.declared.interval.KeptInterval.{KeptInterval}
use Rattle.interval.specs.SentIntervals.{SentRecord}
use Rattle.interval.specs.KeptClosings.{KeptClosings, is_news_of_kept_closings, kept_closing_sent_interval, kept_closing_sent_record, kept_closing_has_records}
use Rattle.interval.specs.IntervalQueues.{IntervalQueue, interval_queues_merged, interval_queue_within, SameQueuedIntervals, AreIntervalQueues}
use Rattle.interval.proofs.Records.ReadItems.{ReadsItem, read_items_taken, read_items_flat_mapped}
use Rattle.interval.proofs.Counts.WalkedNews.{walked_news_read, ReadsQueueOfWalkedNews}
use Rattle.interval.proofs.Order.RisingByPlace.{RisesBefore, Rises}
use Rattle.interval.proofs.Queues.Merged.{MergedQueuesHold, LiesInMerged, merged_lies, lies_merged, rises-merged}

-- what is picked of two lists
pub gathered_filter-append : {X : Type 0} (pick : X → Bool) (xs ys : List X) → filter pick (xs ++ ys) ≡ filter pick xs ++ filter pick ys
gathered_filter-append pick [] ys = refl
gathered_filter-append {X} pick (x ∷ xs) ys =
    let rest = gathered_filter-append pick xs ys in
    let Both : Bool → Type 0 = λ b.
    cond b (x ∷ filter pick (xs ++ ys)) (filter pick (xs ++ ys)) ≡ cond b (x ∷ filter pick xs) (filter pick xs) ++ filter pick ys in
    let at : (b : Bool) → Both b = λ b. elim b as Both [ true ↦ ap (λ (zs : List X). x ∷ zs) rest | false ↦ rest ] in
    at (pick x)

-- what is picked of the first items of a list, with the next
gathered_picked_next : {X : Type 0} {xs : List X} {k : ℕ} {x : X} → (pick : X → Bool) → ReadsItem xs k x
    → filter pick (take (k + 1) xs) ≡ filter pick (take k xs) ++ cond (pick x) (x ∷ []) []
gathered_picked_next {X} {xs} {k} {x} pick reads =
    ap (filter pick) (read_items_taken reads) ∙ gathered_filter-append pick (take k xs) (x ∷ [])

-- a list that has grown by what is picked of the first items of another, and grows by the next, which is picked
pub gathered_grown_picked : {X : Type 0} {now xs : List X} {k : ℕ} {x : X} → (pick : X → Bool) (start : List X) → ReadsItem xs k x
    → pick x ≡ true → now ≡ start ++ filter pick (take k xs) → now ++ x ∷ [] ≡ start ++ filter pick (take (k + 1) xs)
gathered_grown_picked {X} {now} {xs} {k} {x} pick start reads picked so_far =
    ap (λ (ys : List X). ys ++ x ∷ []) so_far ∙ append_assoc start (filter pick (take k xs)) (x ∷ [])
    ∙ ap (λ (b : Bool). start ++ (filter pick (take k xs) ++ cond b (x ∷ []) [])) (sym picked)
    ∙ ap (λ (ys : List X). start ++ ys) (sym (gathered_picked_next pick reads))

-- and one that doesn't, since the next isn't
pub gathered_grown_passed : {X : Type 0} {now xs : List X} {k : ℕ} {x : X} → (pick : X → Bool) (start : List X) → ReadsItem xs k x
    → pick x ≡ false → now ≡ start ++ filter pick (take k xs) → now ≡ start ++ filter pick (take (k + 1) xs)
gathered_grown_passed {X} {now} {xs} {k} {x} pick start reads passed so_far =
    so_far ∙ ap (λ (ys : List X). start ++ ys) (sym (append-nil (filter pick (take k xs))))
    ∙ ap (λ (b : Bool). start ++ (filter pick (take k xs) ++ cond b (x ∷ []) [])) (sym passed)
    ∙ ap (λ (ys : List X). start ++ ys) (sym (gathered_picked_next pick reads))

-- how many intervals of a queue are numbered within from..to
pub gathered_within_few : (held queue : IntervalQueue) (from to : ℕ) → held ≡ queue
    → length (interval_queue_within queue from to) ≤ min (to - held.first) (length held.kept) - (from - held.first)
gathered_within_few held queue from to same =
    let front = length-take (to - held.first) held.kept in
    let long = length-drop (from - held.first) (take (to - held.first) held.kept) in
    let P : IntervalQueue → Type 0 =
    λ q. length (interval_queue_within q from to) ≤ min (to - held.first) (length held.kept) - (from - held.first) in
    subst P same (omega arith)

-- the news of a queue
abbrev pub gathered_news_of_queue : List ℕ → List ℕ → IntervalQueue → List KeptInterval
gathered_news_of_queue old new q = filter (is_news_of_kept_closings old new) q.kept

-- those of them that have records
abbrev pub gathered_sent_of_queue : List ℕ → List ℕ → IntervalQueue → List KeptInterval
gathered_sent_of_queue old new q = filter kept_closing_has_records (gathered_news_of_queue old new q)

-- those of all queues
gathered_own_sent : (old new : List ℕ) (queues : List IntervalQueue)
    → flat_map (gathered_sent_of_queue old new) queues ≡ filter kept_closing_has_records (flat_map (gathered_news_of_queue old new) queues)
gathered_own_sent old new [] = refl
gathered_own_sent old new (q ∷ queues) =
    ap (λ (ks : List KeptInterval). gathered_sent_of_queue old new q ++ ks) (gathered_own_sent old new queues)
    ∙ sym (gathered_filter-append kept_closing_has_records (gathered_news_of_queue old new q) (flat_map (gathered_news_of_queue old new) queues))

-- the same intervals, of which the same are picked
gathered_same_picked : (pick : KeptInterval → Bool) (ks list : List KeptInterval) → SameQueuedIntervals ks list
    → SameQueuedIntervals (filter pick ks) (filter pick list)
gathered_same_picked pick ks list all = record {
  same =
      λ k. (
        (λ h. let p = (filtered_in_order_has pick list k).0 h in (filtered_in_order_has pick ks k).1 ((all.same k).0 p.0, p.1)),
        λ h. let p = (filtered_in_order_has pick ks k).0 h in (filtered_in_order_has pick list k).1 ((all.same k).1 p.0, p.1),
      );
  apart = in_order-filter (λ (j k : KeptInterval). j.place ≢ k.place) pick list all.apart;
}

gathered_none_left : (rs : List PageChanges) → nat_lt 0 (length rs) ≡ false → rs ≡ []
gathered_none_left [] e = refl
gathered_none_left (r ∷ rs) e = let none = ltb-false 0 (length (r ∷ rs)) e in absurd (omega arith)

-- an interval without records sends nothing
pub gathered_records_sent : (ks : List KeptInterval)
    → flat_map kept_closing_sent_interval (filter kept_closing_has_records ks) ≡ flat_map kept_closing_sent_interval ks
gathered_records_sent [] = refl
gathered_records_sent (k ∷ ks) =
    let rest = gathered_records_sent ks in
    let Sends : List KeptInterval → Type 0 = λ js. flat_map kept_closing_sent_interval js ≡ flat_map kept_closing_sent_interval (k ∷ ks) in
    cond_both (kept_closing_has_records k) (k ∷ filter kept_closing_has_records ks) (filter kept_closing_has_records ks) Sends
    (λ e. ap (λ (xs : List SentRecord). kept_closing_sent_interval k ++ xs) rest)
    (λ e. rest ∙ ap (λ (xs : List SentRecord). xs ++ flat_map kept_closing_sent_interval ks) (none e))
  where
    none : kept_closing_has_records k ≡ false → [] ≡ kept_closing_sent_interval k
    none e = sym (ap (map (kept_closing_sent_record k)) (gathered_none_left k.interval.records e))

-- what stands among the news of all queues
gathered_same : (queues : List IntervalQueue) (count : ℕ) (old new : List ℕ) → AreIntervalQueues queues count → (k : KeptInterval)
    → Has (flat_map (gathered_news_of_queue old new) queues) k ↔ Has (filter (is_news_of_kept_closings old new) (interval_queues_merged queues)) k
gathered_same queues count old new are k = (
  λ h.
      let w = (joined_list_has-flat_map (gathered_news_of_queue old new) queues k).0 h in
      let p = (filtered_in_order_has (is_news_of_kept_closings old new) w.0.kept k).0 w.2 in
      let l : LiesInMerged queues k =
      record { owner = w.1.0; queue = w.0; index = p.0.0; owned = w.1.1; at = p.0.1 } in
      (filtered_in_order_has (is_news_of_kept_closings old new) (interval_queues_merged queues) k).1 (lies_merged queues count are k l, p.1),
  λ h.
      let p = (filtered_in_order_has (is_news_of_kept_closings old new) (interval_queues_merged queues) k).0 h in
      let l = merged_lies queues k p.0 in
      (joined_list_has-flat_map (gathered_news_of_queue old new) queues k).1 (
        l.queue,
        (l.owner, l.owned),
        (filtered_in_order_has (is_news_of_kept_closings old new) l.queue.kept k).1 ((l.index, l.at), p.1),
      ),
)

-- no closing number stands twice among them
abbrev GatheredDiffer : KeptInterval → KeptInterval → Type 0
GatheredDiffer j k = j.place ≢ k.place

gathered_apart : (queues : List IntervalQueue) (count : ℕ) (old new : List ℕ) → AreIntervalQueues queues count
    → InOrder GatheredDiffer (flat_map (gathered_news_of_queue old new) queues)
gathered_apart queues count old new are =
    joined_list_in_order-flat_map GatheredDiffer (gathered_news_of_queue old new) queues
    (λ q has. in_order-filter GatheredDiffer (is_news_of_kept_closings old new) q.kept
    (joined_list_in_weaker_order (λ (j k : KeptInterval). j.place < k.place) GatheredDiffer q.kept (λ j k h g lt e. absurd (omega arith))
    (are.each has.0 q has.1).rising))
    (λ x y a b less at_x at_y j k h g same.
    let at_j = ((filtered_in_order_has (is_news_of_kept_closings old new) a.kept j).0 h).0 in
    let at_k = ((filtered_in_order_has (is_news_of_kept_closings old new) b.kept k).0 g).0 in
    let one = are.apart x y a b j k at_x at_y at_j at_k same in absurd (omega arith))

-- the owner's queue, as it is read
pub gathered_owned_queue : {queues : List IntervalQueue} {count : ℕ} {value : KeptClosings} {queue : IntervalQueue} → (owner : ℕ)
    → MergedQueuesHold queues count value → owner < length value.first
    → queue ≡ get_or queues owner queue → slice_get queues owner ≡ Some queue
gathered_owned_queue {queues} {count} {value} {queue} owner hold in_range read =
    let firsts : map (λ (q : IntervalQueue). q.first) queues ≡ value.first = ap (λ (c : KeptClosings). c.first) hold.seen in
    let long = length-map queues (λ (q : IntervalQueue). q.first) in
    let longs = ap length firsts in
    slice_get_read queues (length queues) owner queue refl (omega arith) read

-- the news of the queues so far, and those of one more
pub gathered_more : {queues : List IntervalQueue} {count : ℕ} {old new : List ℕ} {owner from to : ℕ} {queue : IntervalQueue}
    {before now : List KeptInterval}
    → AreIntervalQueues queues count → ReadsQueueOfWalkedNews queues old new owner from to queue
    → before ≡ flat_map (gathered_sent_of_queue old new) (take owner queues)
    → now ≡ before ++ filter kept_closing_has_records (interval_queue_within queue from to)
    → now ≡ flat_map (gathered_sent_of_queue old new) (take (owner + 1) queues)
gathered_more {old = old} {new = new} are r so_far is =
    is ∙ ap₂ (λ (xs ys : List KeptInterval). xs ++ filter kept_closing_has_records ys) so_far (sym (walked_news_read are r))
    ∙ sym (read_items_flat_mapped (gathered_sent_of_queue old new) r.reads)

-- once all queues were gone through
pub gathered_all : {queues : List IntervalQueue} {count : ℕ} {value : KeptClosings} {news : List KeptInterval}
    → MergedQueuesHold queues count value → (old new : List ℕ) (n : ℕ)
    → length queues ≤ n → news ≡ flat_map (gathered_sent_of_queue old new) (take n queues)
    → SameQueuedIntervals (filter kept_closing_has_records (filter (is_news_of_kept_closings old new) value.kept)) news
gathered_all {queues} {count} {value} {news} hold old new n end so_far =
    let all : news ≡ filter kept_closing_has_records (flat_map (gathered_news_of_queue old new) queues) =
    so_far ∙ ap (flat_map (gathered_sent_of_queue old new)) (take_all n queues end) ∙ gathered_own_sent old new queues in
    let found : SameQueuedIntervals (filter (is_news_of_kept_closings old new) (interval_queues_merged queues)) (flat_map (gathered_news_of_queue old new) queues) = record {
      same = gathered_same queues count old new hold.are;
      apart = gathered_apart queues count old new hold.are;
    } in
    let merged = filter (is_news_of_kept_closings old new) (interval_queues_merged queues) in
    let P : List KeptInterval → Type 0 = λ ks. SameQueuedIntervals (filter kept_closing_has_records merged) ks in
    let Q : KeptClosings → Type 0 = λ c. SameQueuedIntervals (filter kept_closing_has_records (filter (is_news_of_kept_closings old new) c.kept)) news in
    subst Q hold.seen (subst P (sym all) (gathered_same_picked kept_closing_has_records merged (flat_map (gathered_news_of_queue old new) queues) found))

-- the records of the intervals so far, and those of one more
pub gathered_sent_more : {X : Type 0} {items : List X} {n : ℕ} {x : X} {before now : List SentRecord} → (kept : X → KeptInterval)
    → ReadsItem items n x → before ≡ flat_map kept_closing_sent_interval (map kept (take n items))
    → now ≡ before ++ kept_closing_sent_interval (kept x) → now ≡ flat_map kept_closing_sent_interval (map kept (take (n + 1) items))
gathered_sent_more {X} {items} {n} {x} kept reads so_far is =
    let last : flat_map kept_closing_sent_interval (map kept (x ∷ [])) ≡ kept_closing_sent_interval (kept x) =
    append-nil (kept_closing_sent_interval (kept x)) in
    is ∙ ap₂ (λ (xs ys : List SentRecord). xs ++ ys) so_far (sym last)
    ∙ sym (flat_map-append kept_closing_sent_interval (map kept (take n items)) (map kept (x ∷ [])))
    ∙ ap (flat_map kept_closing_sent_interval) (sym (map-append kept (take n items) (x ∷ [])))
    ∙ ap (λ (xs : List X). flat_map kept_closing_sent_interval (map kept xs)) (sym (read_items_taken reads))

-- the news that contracts see come in closing order, also those of them that have records
pub gathered_news_rise : {queues : List IntervalQueue} {count : ℕ} {value : KeptClosings} → MergedQueuesHold queues count value → (old new : List ℕ)
    → Rises (filter kept_closing_has_records (filter (is_news_of_kept_closings old new) value.kept))
gathered_news_rise {queues} hold old new =
    let P : KeptClosings → Type 0 = λ c. Rises (filter kept_closing_has_records (filter (is_news_of_kept_closings old new) c.kept)) in
    let rises = in_order-filter RisesBefore (is_news_of_kept_closings old new) (interval_queues_merged queues) (rises-merged queues) in
    subst P hold.seen (in_order-filter RisesBefore kept_closing_has_records (filter (is_news_of_kept_closings old new) (interval_queues_merged queues)) rises)
