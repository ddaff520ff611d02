-- The intervals from the first to gather up to the index are in the list, but for those without records.
use Rattle.std.proofs.Common.{◌≡◌, ◌-◌, ◌++◌, filter, map, take, Bor}
use Rattle.interval.specs.declared.interval.KeptInterval.{KeptInterval}
use Rattle.interval.specs.KeptClosings.{kept_closing_has_records}
use Rattle.interval.specs.IntervalQueues.{interval_queue_within}
use Rattle.interval.proofs.queue.Queue.gather.Given as goal

abbrev pub invariant-loop-index : goal.invariant-loop-index
invariant-loop-index l =
    map (λ (k : Bor KeptInterval). k.now) l.news.items ≡ map (λ (k : Bor KeptInterval). k.now) l.initial.news.items
    ++ filter kept_closing_has_records (take (l.index - l.start) (interval_queue_within l.self l.from l.to))
