use Rattle.std.proofs.Common.{◌≡◌, ℕ, List, map}
use Rattle.std.specs.Arc.{arc_value}
use Rattle.journal.specs.declared.event.Event.{Event}
use Rattle.journal.specs.IntervalContents.{open_interval_contents}
use Rattle.test_memory.specs.Histories.Records.{AreOpenBelow}
use Rattle.test_memory.proofs.histories.told.Told.records_of.Given as goal

abbrev pub invariant-loop-page : goal.invariant-loop-page
invariant-loop-page l =
    (h : List Event) (p : ℕ) → open_interval_contents h p ≡ l.events
    → AreOpenBelow l.self.sizes h p l.page (map arc_value l.records.items)
