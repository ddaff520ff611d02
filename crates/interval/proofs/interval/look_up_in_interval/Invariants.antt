-- The search from here on finds what the whole search finds.
use Rattle.std.proofs.Common.{◌≡◌, ◌==◌, find, map, drop}
use Rattle.std.specs.Arc.{arc_value}
use Rattle.page.specs.PageChanges.{PageChanges}
use Rattle.interval.proofs.interval.look_up_in_interval.Given as goal

abbrev pub invariant-loop-record : goal.invariant-loop-record
invariant-loop-record l =
    find (λ (r : PageChanges). r.page == l.page) (map arc_value (drop l.record-index l.records))
    ≡ find (λ (r : PageChanges). r.page == l.page) (map arc_value l.records)
