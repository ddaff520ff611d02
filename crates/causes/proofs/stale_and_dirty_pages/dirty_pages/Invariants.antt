use Rattle.std.proofs.Common.{List}
use Rattle.journal.specs.declared.event.Event.{Event}
use Rattle.judge.specs.FetchGaps.{TellsFetchGaps}
use Rattle.judge.specs.JudgedSizes.{judged_sizes_of}
use Rattle.causes.specs.EventStates.{IsEventStateDirty}
use Rattle.causes.specs.FinalWaits.{AreThoseInFinalWait}
use Rattle.causes.proofs.stale_and_dirty_pages.dirty_pages.Given as goal

abbrev pub invariant-loop-page : goal.invariant-loop-page
invariant-loop-page l =
    (j : List Event) → TellsFetchGaps j l.gaps → AreThoseInFinalWait (IsEventStateDirty (judged_sizes_of l.gaps.sizes) j l.by) l.page l.pages.items
