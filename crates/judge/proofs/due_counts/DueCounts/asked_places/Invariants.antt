use Rattle.std.proofs.Common.{List}
use Rattle.journal.specs.declared.event.Event.{Event}
use Rattle.judge.specs.AskedPlaces.{AreAskedPlaces}
use Rattle.judge.specs.DueCounts.{TellsDueCounts}
use Rattle.judge.specs.JudgedSizes.{judged_sizes_of}
use Rattle.judge.proofs.due_counts.DueCounts.asked_places.Given as goal

abbrev pub invariant-loop-processor : goal.invariant-loop-processor
invariant-loop-processor l = (j : List Event) → TellsDueCounts j l.self
    → AreAskedPlaces (judged_sizes_of l.self.stored.sizes) j l.page l.by l.processor l.asked
