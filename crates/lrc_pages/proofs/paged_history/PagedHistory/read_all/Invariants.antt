use Rattle.std.proofs.Common.{◌≡◌, ◌++◌, List, take}
use Rattle.journal.specs.declared.event.Event.{Event}
use Rattle.lrc_pages.specs.PagedHistory.{IsPagedTraceOf}
use Rattle.lrc_pages.proofs.paged_history.PagedHistory.read_all.Given as goal

-- the events so far were read
abbrev pub invariant-loop-at : goal.invariant-loop-at
invariant-loop-at l = record {
  sizes : l.self.sizes ≡ l.fn.self.sizes;
  told : (j : List Event) → IsPagedTraceOf j l.fn.self → IsPagedTraceOf (j ++ take l.at l.events) l.self;
}
