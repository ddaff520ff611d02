use Rattle.std.proofs.Common.{List}
use Rattle.journal.specs.declared.event.Event.{Event}
use Rattle.judge.specs.FetchGaps.{TellsFetchGaps}
use Rattle.judge.specs.GapTally.{gap_tally_place_of}
use Rattle.judge.specs.JudgedSizes.{judged_sizes_of}
use Rattle.causes.specs.Notices.{NoticesBelow}
use Rattle.causes.proofs.notices.add_notices_of_writer.Given as goal

abbrev pub invariant-loop-interval : goal.invariant-loop-interval
invariant-loop-interval l =
    (j : List Event) → TellsFetchGaps j l.gaps
    → NoticesBelow (judged_sizes_of l.gaps.sizes) j l.span (gap_tally_place_of l.page l.writer) 0 l.initial.notices.items
    → NoticesBelow (judged_sizes_of l.gaps.sizes) j l.span (gap_tally_place_of l.page l.writer) l.interval l.notices.items
