use Rattle.std.proofs.Common.{◌+◌, ◌*◌, List}
use Rattle.journal.specs.declared.event.Event.{Event}
use Rattle.judge.specs.FetchGaps.{TellsFetchGaps}
use Rattle.judge.specs.JudgedSizes.{judged_sizes_of}
use Rattle.causes.specs.Notices.{NoticesBelow}
use Rattle.causes.proofs.notices.add_notices_of_page.Given as goal

abbrev pub invariant-loop-writer : goal.invariant-loop-writer
invariant-loop-writer l =
    (j : List Event) → TellsFetchGaps j l.gaps
    → NoticesBelow (judged_sizes_of l.gaps.sizes) j l.span (l.page * 16) 0 l.initial.notices.items
    → NoticesBelow (judged_sizes_of l.gaps.sizes) j l.span (l.page * 16 + l.writer) 0 l.notices.items
