-- The news of the owners so far that have records are in the list.
use Rattle.std.proofs.Common.{◌≡◌, map, take, Bor}
use Rattle.std.specs.List.{flat_map}
use Rattle.interval.specs.declared.interval.KeptInterval.{KeptInterval}
use Rattle.interval.proofs.News.Gathered.{gathered_sent_of_queue}
use Rattle.interval.proofs.closed.Closed.intervals_between.Given as goal

abbrev pub invariant-loop-owner : goal.invariant-loop-owner
invariant-loop-owner l =
    map (λ (k : Bor KeptInterval). k.now) l.news.items ≡ flat_map (gathered_sent_of_queue l.old l.new) (take l.owner l.queue-items)
