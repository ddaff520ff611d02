use Rattle.std.proofs.Common.{◌≡◌, ◌-◌, ◌+◌, ℕ, List, take, subst, arith}
use Rattle.interval.specs.declared.interval.KeptInterval.{KeptInterval}
use Rattle.interval.specs.PageCounts.{counted_pages_of, counted_pages_of_changes, PageCountsGrew}
use Rattle.interval.specs.IntervalQueues.{interval_queue_within}
use Rattle.interval.proofs.Counts.PageCountsGrow.{page_counts_grow_next, page_counts_grow_room_next}
use Rattle.interval.proofs.Counts.WalkedNews.{walked_news_within}
use Rattle.interval.proofs.queue.Queue.count_pages.Goals as goal

abbrev own : KeptInterval → List ℕ
own k = counted_pages_of_changes k.interval.records

pub count_pages-requires : goal.count_pages-requires
count_pages-requires c =
    let len = c.len.ensures in
    let read =
    walked_news_within c.args.from c.args.to c.loop-index.index c.self.view_is c.loop-index.auto.index (omega arith)
    c.index.ensures in
    page_counts_grow_room_next own read c.requires.room c.loop-index.invariant

pub loop-index-preserved : goal.loop-index-preserved
loop-index-preserved c =
    let start = c.args.from - c.self.inside.first in
    let len = c.len.ensures in
    let after = c.loop-index.auto.index in
    let read = walked_news_within c.args.from c.args.to c.loop-index.index c.self.view_is after (omega arith) c.index.ensures in
    let more = page_counts_grow_next own read c.loop-index.invariant c.count_pages.ensures in
    let next : c.loop-index.index - start + 1 ≡ c.loop-index.index + 1 - start = omega arith in
    let Next : ℕ → Type 0 =
    λ n. PageCountsGrew c.args.base (counted_pages_of (take n (interval_queue_within c.args.self.now c.args.from c.args.to)))
    c.args.counts.now c.count_pages.new.counts in
    subst Next next more
