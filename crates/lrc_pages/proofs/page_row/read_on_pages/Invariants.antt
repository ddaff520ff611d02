use Rattle.std.proofs.Common.{◌≡◌, ℕ, ◌<◌, ◌≤◌, ◌++◌, List, Some, slice_get}
use Rattle.journal.specs.declared.event.Event.{Event}
use Rattle.journal.specs.Sizes.{Sizes}
use Rattle.lrc_pages.specs.declared.paged_history.PagedHistory.{PagedHistory}
use Rattle.lrc_pages.specs.PagedTraces.{ArePagedTraces, IsPagedOn, paged_words}
use Rattle.lrc_pages.proofs.page_row.read_on_pages.Given as goal

-- those before this place were told the events, and the others weren't
abbrev pub invariant-loop-at : goal.invariant-loop-at
invariant-loop-at l = record {
  left : (k : ℕ) → l.at ≤ k → slice_get l.histories k ≡ slice_get l.fn.histories k;
  words : paged_words l.histories ≡ paged_words l.fn.histories;
  told : (s : Sizes) (j : List Event) → ArePagedTraces s j l.fn.histories → (k : ℕ) (x : PagedHistory) → k < l.at
      → slice_get l.histories k ≡ Some x → IsPagedOn s (j ++ l.events) x;
}
