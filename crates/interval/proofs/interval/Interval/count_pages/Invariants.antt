-- The records below the index are counted.
use Rattle.std.proofs.Common.{[], ◌∷◌, map, take}
use Rattle.std.specs.List.{flat_map}
use Rattle.std.specs.Arc.{arc_value}
use Rattle.page.specs.PageChanges.{PageChanges}
use Rattle.interval.specs.PageCounts.{PageCountsGrew}
use Rattle.interval.proofs.interval.Interval.count_pages.Given as goal

abbrev pub invariant-loop-record : goal.invariant-loop-record
invariant-loop-record l =
    PageCountsGrew l.base (flat_map (λ (r : PageChanges). r.page ∷ []) (take l.record-index (map arc_value l.record-items)))
    l.initial.counts l.counts
