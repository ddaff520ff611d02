use Rattle.std.proofs.Common.{◌*◌, ◌≤◌, List}
use Rattle.journal.specs.declared.event.Event.{Event}
use Rattle.judge.specs.FetchGaps.{TellsFetchGaps}
use Rattle.judge.specs.JudgedSizes.{judged_sizes_of}
use Rattle.causes.specs.Notices.{NoticesBelow}
use Rattle.causes.proofs.notices.notices_in.Given as goal

abbrev pub invariant-loop-page : goal.invariant-loop-page
invariant-loop-page l = record {
  first : l.span.first ≤ l.page;
  notices : (j : List Event) → TellsFetchGaps j l.gaps
      → NoticesBelow (judged_sizes_of l.gaps.sizes) j l.span (l.page * 16) 0 l.notices.items;
}
