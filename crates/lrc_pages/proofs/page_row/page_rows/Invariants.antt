use Rattle.std.proofs.Common.{List, take}
use Rattle.journal.specs.declared.event.Event.{Event}
use Rattle.journal.specs.Sizes.{Sizes}
use Rattle.lrc_pages.specs.PagedTraces.{ArePageRows, ArePagedTraces, paged_words}
use Rattle.lrc_pages.proofs.page_row.page_rows.Given as goal

abbrev pub invariant-loop-at : goal.invariant-loop-at
invariant-loop-at l = (s : Sizes) (j : List Event) → ArePagedTraces s j l.histories
    → ArePageRows l.most s j (take l.at (paged_words l.histories)) l.rows.items
