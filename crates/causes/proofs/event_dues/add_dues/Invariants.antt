use Rattle.std.proofs.Common.{◌+◌, ◌*◌, List}
use Rattle.journal.specs.declared.event.Event.{Event}
use Rattle.judge.specs.FetchGaps.{TellsFetchGaps}
use Rattle.judge.specs.JudgedSizes.{judged_sizes_of}
use Rattle.causes.specs.Dues.{DuesBelow}
use Rattle.causes.proofs.event_dues.add_dues.Given as goal

abbrev pub invariant-loop-writer : goal.invariant-loop-writer
invariant-loop-writer l =
    (j : List Event) → TellsFetchGaps j l.gaps
    → DuesBelow (judged_sizes_of l.gaps.sizes) j l.span (l.page * 16) l.initial.dues.items
    → DuesBelow (judged_sizes_of l.gaps.sizes) j l.span (l.page * 16 + l.writer) l.dues.items
