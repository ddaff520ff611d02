use Rattle.std.proofs.Common.{◌<◌, ◌≤◌, List, slice_index}
use Rattle.journal.specs.declared.event.Event.{Event}
use Rattle.judge.specs.DueCounts.{AreDueAmountsFew, IsDueFetchedCut, TellsDueCounts}
use Rattle.judge.specs.DueCounts.{DueAmountsAmong}
use Rattle.judge.specs.JudgedSizes.{judged_sizes_of, most_judged_processors}
use Rattle.judge.proofs.due_counts.DueCounts.due.Given as goal

abbrev pub invariant-loop-by : goal.invariant-loop-by
invariant-loop-by l = record {
  present : l.self.stored.sizes.processors ≤ most_judged_processors;
  few : AreDueAmountsFew l.by l.due;
  had : (j : List Event) → TellsDueCounts j l.self
      → IsDueFetchedCut (judged_sizes_of l.self.stored.sizes) j l.processor l.page (slice_index l.had);
  counts : (j : List Event) → TellsDueCounts j l.self
      → DueAmountsAmong (judged_sizes_of l.self.stored.sizes) j l.processor l.page (λ q. q < l.by) l.due.writers l.due.records
      l.due.words;
}
