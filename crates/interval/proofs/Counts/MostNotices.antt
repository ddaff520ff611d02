-- No page has more notices among what is sent than intervals were closed.
use Rattle.std.proofs.Common.{◌≡◌, ℕ, ◌+◌, ◌<◌, ◌≤◌, suc, Bool, true, false, ◌==◌, cond, inl, inr, List, [], ◌∷◌, map, filter, length, count_by, refl, ap, arith}
use Rattle.std.specs.List.{flat_map}
use Rattle.std.proofs.lemmas.Bool.{cases_Bool, eqb-true, ne_eqb}
use Rattle.std.proofs.lemmas.List.Sums.{sum_by-cons, length-filter, count_by-le-length}
use Rattle.base.specs.InOrderOnce.{Has}
use Rattle.base.proofs.SlicesAndCounts.{slice_count_by-append}
use Rattle.base.proofs.JoinedLists.{joined_list_in_order_tail}
use Rattle.base.proofs.FilteredInOrder.{filtered_in_order_has}
use Rattle.page.specs.PageChanges.{PageChanges}
use Rattle.interval.specs.declared.interval.KeptInterval.{KeptInterval}
use Rattle.interval.specs.SentIntervals.{SentRecord, SentIntervalPagesRise}
use Rattle.interval.specs.KeptClosings.{KeptClosings, is_news_of_kept_closings, kept_closing_sent_record, kept_closing_sent_interval, kept_closings_between, is_kept_closing_of_page}
use Rattle.interval.specs.IntervalQueues.{IntervalQueue, interval_queues_merged}
use Rattle.interval.proofs.Order.RisingByPlace.{Rises, rises_first, rises_rest}
use Rattle.interval.proofs.Queues.Merged.{MergedQueuesHold, merged_lies, merged_queue_interval, rises-merged}

most_notices_one_more : (page : ℕ) (k : KeptInterval) (r : PageChanges) (rs : List PageChanges) (same : Bool) → (r.page == page) ≡ same
    → count_by (is_kept_closing_of_page page) (map (kept_closing_sent_record k) (r ∷ rs))
    ≡ cond same 1 0 + count_by (is_kept_closing_of_page page) (map (kept_closing_sent_record k) rs)
most_notices_one_more page k r rs same is =
    let one =
    sum_by-cons (λ (s : SentRecord). cond (is_kept_closing_of_page page s) 1 0) (kept_closing_sent_record k r) (map (kept_closing_sent_record k) rs) in
    let here = ap (λ (b : Bool). cond {A = ℕ} b 1 0) is in
    omega arith

-- later pages are other pages
most_notices_none_above : (page : ℕ) (k : KeptInterval) (rs : List PageChanges) → ((r : PageChanges) → Has rs r → page < r.page)
    → count_by (is_kept_closing_of_page page) (map (kept_closing_sent_record k) rs) ≡ 0
most_notices_none_above page k [] above = refl
most_notices_none_above page k (r ∷ rs) above =
    let rest = most_notices_none_above page k rs (λ s h. above s (suc h.0, h.1)) in
    let lt = above r (0, refl) in
    let step = most_notices_one_more page k r rs false (ne_eqb r.page page (λ e. omega arith)) in
    omega arith

-- an interval has one record of the page at most
most_notices_one_record : (page : ℕ) (k : KeptInterval) (rs : List PageChanges) → SentIntervalPagesRise rs
    → count_by (is_kept_closing_of_page page) (map (kept_closing_sent_record k) rs) ≤ 1
most_notices_one_record page k [] rises = omega arith
most_notices_one_record page k (r ∷ rs) rises =
    elim (cases_Bool (r.page == page)) [
      | inl same ↦ (
          let is : r.page ≡ page = eqb-true _ _ same in
          let rest =
          most_notices_none_above page k rs (λ s h. let lt = rises 0 (suc h.0) r s (omega arith) refl h.1 in omega arith) in
          let step = most_notices_one_more page k r rs true same in
          omega arith)
      | inr other ↦ (
          let rest = most_notices_one_record page k rs (joined_list_in_order_tail (λ (r s : PageChanges). r.page < s.page) r rs rises) in
          let step = most_notices_one_more page k r rs false other in
          omega arith)
    ]

-- no more than there are intervals
most_notices_of_intervals : (page : ℕ) (ks : List KeptInterval) → ((k : KeptInterval) → Has ks k → SentIntervalPagesRise k.interval.records)
    → count_by (is_kept_closing_of_page page) (flat_map kept_closing_sent_interval ks) ≤ length ks
most_notices_of_intervals page [] pages = omega arith
most_notices_of_intervals page (k ∷ ks) pages =
    let rest = most_notices_of_intervals page ks (λ j h. pages j (suc h.0, h.1)) in
    let first = most_notices_one_record page k k.interval.records (pages k (0, refl)) in
    let both = slice_count_by-append (is_kept_closing_of_page page) (kept_closing_sent_interval k) (flat_map kept_closing_sent_interval ks) in
    omega arith

-- no more intervals than closing numbers
most_notices_places : (m n : ℕ) (ks : List KeptInterval) → Rises ks → ((k : KeptInterval) → Has ks k → m ≤ k.place)
    → ((k : KeptInterval) → Has ks k → k.place < n) → m ≤ n → length ks + m ≤ n
most_notices_places m n [] rises from below le = omega arith
most_notices_places m n (k ∷ ks) rises from below le =
    let first = from k (0, refl) in
    let last = below k (0, refl) in
    let rest =
    most_notices_places (k.place + 1) n ks (rises_rest k ks rises)
    (λ j h. let lt = rises_first k ks rises j h in omega arith) (λ j h. below j (suc h.0, h.1)) (omega arith)
    in
    omega arith

-- so the count fits where the number of closed intervals does
pub most_notices_fit : {queues : List IntervalQueue} {count : ℕ} {value : KeptClosings} → MergedQueuesHold queues count value → (page : ℕ)
    (old new : List ℕ)
    → count_by (is_kept_closing_of_page page) (kept_closings_between value old new) ≤ count
most_notices_fit {queues} {count} {value} hold page old new =
    let are = hold.are in
    let news : List KeptInterval = filter (is_news_of_kept_closings old new) (interval_queues_merged queues) in
    let places =
    most_notices_places 0 count (interval_queues_merged queues) (rises-merged queues) (λ k h. omega arith)
    (λ k h. (merged_queue_interval queues count are k (merged_lies queues k h)).closed) (omega arith) in
    let fewer = count_by-le-length (is_news_of_kept_closings old new) (interval_queues_merged queues) in
    let long = length-filter (is_news_of_kept_closings old new) (interval_queues_merged queues) in
    let most =
    most_notices_of_intervals page news (λ k h. (merged_queue_interval queues count are k
    (merged_lies queues k ((filtered_in_order_has (is_news_of_kept_closings old new) (interval_queues_merged queues) k).0 h).0)).pages)
    in
    let same = ap (λ (c : KeptClosings). count_by (is_kept_closing_of_page page) (kept_closings_between c old new)) hold.seen in
    omega arith
