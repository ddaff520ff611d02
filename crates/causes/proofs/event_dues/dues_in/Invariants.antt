use Rattle.std.proofs.Common.{◌*◌, ◌≤◌, List}
use Rattle.journal.specs.declared.event.Event.{Event}
use Rattle.judge.specs.FetchGaps.{TellsFetchGaps}
use Rattle.judge.specs.JudgedSizes.{judged_sizes_of}
use Rattle.causes.specs.Dues.{DuesBelow}
use Rattle.causes.proofs.event_dues.dues_in.Given as goal

abbrev pub invariant-loop-page : goal.invariant-loop-page
invariant-loop-page l = record {
  first : l.span.first ≤ l.page;
  dues : (j : List Event) → TellsFetchGaps j l.gaps → DuesBelow (judged_sizes_of l.gaps.sizes) j l.span (l.page * 16) l.dues.items;
}
