-- The intervals from the first to count up to the index are counted.
use Rattle.std.proofs.Common.{◌-◌, take}
use Rattle.interval.specs.PageCounts.{counted_pages_of, PageCountsGrew}
use Rattle.interval.specs.IntervalQueues.{interval_queue_within}
use Rattle.interval.proofs.queue.Queue.count_pages.Given as goal

abbrev pub invariant-loop-index : goal.invariant-loop-index
invariant-loop-index l =
    PageCountsGrew l.base (counted_pages_of (take (l.index - l.start) (interval_queue_within l.self l.from l.to))) l.initial.counts l.counts
