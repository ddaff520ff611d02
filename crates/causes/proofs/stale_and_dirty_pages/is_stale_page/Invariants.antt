use Rattle.std.proofs.Common.{ℕ, ◌<◌, List}
use Rattle.journal.specs.declared.event.Event.{Event}
use Rattle.judge.specs.FetchGaps.{TellsFetchGaps}
use Rattle.judge.specs.JudgedSizes.{judged_sizes_of}
use Rattle.causes.specs.Notices.{HasNoticeOf}
use Rattle.causes.proofs.stale_and_dirty_pages.is_stale_page.Given as goal

abbrev pub invariant-loop-writer : goal.invariant-loop-writer
invariant-loop-writer l =
    (j : List Event) (q : ℕ) → TellsFetchGaps j l.gaps → q < l.writer
    → ¬ HasNoticeOf (judged_sizes_of l.gaps.sizes) j l.span l.page q
