-- What is sent comes in closing order.
use Rattle.std.proofs.Common.{ℕ, ◌≡◌, ◌<◌, inl, inr, List, ◌++◌, filter, refl, sym, ap, subst, arith, ◌∙◌}
use Rattle.std.specs.List.{flat_map}
use Rattle.base.specs.InOrderOnce.{Has}
use Rattle.base.proofs.JoinedLists.{joined_list_has-map, joined_list_has-flat_map, joined_list_in_order-map, joined_list_in_weaker_order, joined_list_in_order-append, joined_list_in_order-flat_map}
use Rattle.base.proofs.FilteredInOrder.{filtered_in_order_has, in_order-filter}
use Rattle.page.specs.PageChanges.{PageChanges}
use Rattle.interval.specs.declared.interval.KeptInterval.{KeptInterval}
use Rattle.interval.specs.SentIntervals.{ClosedInterval, SentRecord, SentIntervalPagesRise, IsSentBefore, IsSentInIntervalOrder}
use Rattle.interval.specs.KeptClosings.{KeptClosings, is_news_of_kept_closings, kept_closing_sent_record, kept_closing_sent_interval, kept_closings_between}
use Rattle.interval.specs.IntervalQueues.{IntervalQueue, interval_queues_merged, AreIntervalQueues}
use Rattle.interval.proofs.Order.RisingByPlace.{RisesBefore, Rises}
use Rattle.interval.proofs.Queues.Merged.{MergedQueuesHold, merged_lies, rises-merged, merged_queue_interval}

-- the records of one interval, by rising page
closing_order_sent_rises : (k : KeptInterval) → SentIntervalPagesRise k.interval.records → IsSentInIntervalOrder (kept_closing_sent_interval k)
closing_order_sent_rises k pages =
    joined_list_in_order-map IsSentBefore (kept_closing_sent_record k) k.interval.records
    (joined_list_in_weaker_order (λ (r s : PageChanges). r.page < s.page)
    (λ (r s : PageChanges). IsSentBefore (kept_closing_sent_record k r) (kept_closing_sent_record k s)) k.interval.records
    (λ r s here there lt. inr (refl, lt)) pages)

-- all of an interval's records have its closing number
closing_order_within_interval : (k : KeptInterval) (s : SentRecord) → Has (kept_closing_sent_interval k) s → s.place ≡ k.place
closing_order_within_interval k s h =
    let w = (joined_list_has-map (kept_closing_sent_record k) k.interval.records s).0 h in ap (λ (s : SentRecord). s.place) (sym w.2)

closing_order_of_sent : (ks : List KeptInterval) → Rises ks → ((k : KeptInterval) → Has ks k → SentIntervalPagesRise k.interval.records)
    → IsSentInIntervalOrder (flat_map kept_closing_sent_interval ks)
closing_order_of_sent ks rises pages =
    joined_list_in_order-flat_map IsSentBefore kept_closing_sent_interval ks (λ k has. closing_order_sent_rises k (pages k has))
    (joined_list_in_weaker_order RisesBefore
    (λ (j k : KeptInterval). (a b : SentRecord) → Has (kept_closing_sent_interval j) a → Has (kept_closing_sent_interval k) b → IsSentBefore a b)
    ks
    (λ j k here there lt a b at_a at_b. let first = closing_order_within_interval j a at_a in let second = closing_order_within_interval k b at_b in
    inl (omega arith))
    rises)

-- the news of the queues
closing_order_pages_rise : (queues : List IntervalQueue) (count : ℕ) (old new : List ℕ) → AreIntervalQueues queues count → (k : KeptInterval)
    → Has (filter (is_news_of_kept_closings old new) (interval_queues_merged queues)) k → SentIntervalPagesRise k.interval.records
closing_order_pages_rise queues count old new are k has =
    (merged_queue_interval queues count are k (merged_lies queues k ((filtered_in_order_has (is_news_of_kept_closings old new) (interval_queues_merged queues) k).0 has).0)).pages

pub closing_order_between : {queues : List IntervalQueue} {count : ℕ} {value : KeptClosings} {sent : List SentRecord}
    → MergedQueuesHold queues count value → (old new : List ℕ) → sent ≡ kept_closings_between value old new → IsSentInIntervalOrder sent
closing_order_between {queues} {count} {value} {sent} hold old new sent_is =
    let rises = in_order-filter RisesBefore (is_news_of_kept_closings old new) (interval_queues_merged queues) (rises-merged queues) in
    let ordered =
    closing_order_of_sent (filter (is_news_of_kept_closings old new) (interval_queues_merged queues)) rises (closing_order_pages_rise queues count old new hold.are) in
    let P : List SentRecord → Type 0 = λ s. IsSentInIntervalOrder s in
    subst P (sym (sent_is ∙ ap (λ (c : KeptClosings). kept_closings_between c old new) (sym hold.seen))) ordered

-- and so it stays with one more interval, closed after all others
pub closing_order_push : {queues : List IntervalQueue} {count : ℕ} {value : KeptClosings} {before now : List SentRecord}
    → MergedQueuesHold queues count value → (i : ClosedInterval) (old new : List ℕ)
    → SentIntervalPagesRise i.records → before ≡ kept_closings_between value old new
    → now ≡ before ++ kept_closing_sent_interval (record { place = count; interval = i }) → IsSentInIntervalOrder now
closing_order_push {queues} {count} {value} {before} {now} hold i old new pages before_is now_is =
    let are = hold.are in
    let k : KeptInterval = record { place = count; interval = i } in
    let news : before ≡ flat_map kept_closing_sent_interval (filter (is_news_of_kept_closings old new) (interval_queues_merged queues)) =
    before_is ∙ ap (λ (c : KeptClosings). kept_closings_between c old new) (sym hold.seen) in
    let front = closing_order_between hold old new before_is in
    let across : (a b : SentRecord) → Has before a → Has (kept_closing_sent_interval k) b → IsSentBefore a b = λ a b h g.
    let P : List SentRecord → Type 0 = λ s. Has s a in
    let from = (joined_list_has-flat_map kept_closing_sent_interval (filter (is_news_of_kept_closings old new) (interval_queues_merged queues)) a).0 (subst P news h) in
    let l = merged_lies queues from.0 ((filtered_in_order_has (is_news_of_kept_closings old new) (interval_queues_merged queues) from.0).0 from.1).0 in
    let closed = (merged_queue_interval queues count are from.0 l).closed in
    let first = closing_order_within_interval from.0 a from.2 in
    let last = closing_order_within_interval k b g in
    inl (omega arith) in
    let Q : List SentRecord → Type 0 = λ s. IsSentInIntervalOrder s in
    subst Q (sym now_is) (joined_list_in_order-append IsSentBefore before (kept_closing_sent_interval k) front (closing_order_sent_rises k pages) across)
