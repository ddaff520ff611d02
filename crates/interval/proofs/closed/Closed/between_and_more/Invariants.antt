-- The records of the intervals so far are sent.
use Rattle.std.proofs.Common.{◌≡◌, map, take, Bor}
use Rattle.std.specs.List.{flat_map}
use Rattle.interval.specs.declared.interval.KeptInterval.{KeptInterval}
use Rattle.interval.specs.KeptClosings.{kept_closing_sent_interval}
use Rattle.interval.proofs.closed.Closed.between_and_more.Given as goal

abbrev pub invariant-loop-kept : goal.invariant-loop-kept
invariant-loop-kept l =
    l.sent.items ≡ flat_map kept_closing_sent_interval (map (λ (k : Bor KeptInterval). k.now) (take l.kept-index l.kept-items))
