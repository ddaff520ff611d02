-- The news of the owners so far are counted.
use Rattle.std.proofs.Common.{take}
use Rattle.std.specs.List.{flat_map}
use Rattle.interval.specs.PageCounts.{PageCountsGrew}
use Rattle.interval.proofs.Counts.WalkedNews.{walked_news_pages}
use Rattle.interval.proofs.closed.Closed.count_pages.Given as goal

abbrev pub invariant-loop-owner : goal.invariant-loop-owner
invariant-loop-owner l =
    PageCountsGrew l.base (flat_map (walked_news_pages l.old l.new) (take l.owner l.queue-items)) l.initial.counts l.counts
