-- The records below the index are added.
use Rattle.std.proofs.Common.{◌≡◌, ◌++◌, map, take}
use Rattle.std.specs.Arc.{arc_value}
use Rattle.interval.specs.KeptClosings.{kept_closing_sent_record}
use Rattle.interval.proofs.interval.Interval.send.Given as goal

abbrev pub invariant-loop-record : goal.invariant-loop-record
invariant-loop-record l =
    l.sent.items
    ≡ l.initial.sent.items
    ++ map (kept_closing_sent_record (record { place = l.place; interval = l.self }))
    (map arc_value (take l.record-index l.record-items))
