use Rattle.std.proofs.Common.{◌≡◌, ◌++◌, List, take}
use Rattle.journal.specs.declared.event.Event.{Event}
use Rattle.journal.specs.Sizes.{Sizes}
use Rattle.lrc_pages.specs.PagedTraces.{ArePagedTraces, paged_words}
use Rattle.lrc_pages.proofs.page_row.read_watched.Given as goal

-- the events so far were told
abbrev pub invariant-loop-at : goal.invariant-loop-at
invariant-loop-at l = record {
  words : paged_words l.histories ≡ paged_words l.fn.histories;
  told : (s : Sizes) (j : List Event) → ArePagedTraces s j l.fn.histories → ArePagedTraces s (j ++ take l.at l.events) l.histories;
}
