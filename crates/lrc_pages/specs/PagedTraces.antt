-- What a trace costs on pages of each of some sizes.
use Rattle.std.specs.Prelude.{ℕ, ◌≡◌, ◌+◌, ◌-◌, ◌/◌, List, Some, map, slice_get}
use Rattle.journal.specs.declared.event.Event.{Event}
use Rattle.journal.specs.PageImages.{HasPageImageCount}
use Rattle.journal.specs.Sizes.{Sizes, addresses}
use Rattle.journal.specs.Traffic.{messages}
use Rattle.journal.specs.Events.{EventAt}
use Rattle.judge.specs.JudgedSizes.{judged_sizes_of}
use Rattle.lrc_check.specs.Traces.LawfulTraces.{IsWithinLawfulTrace}
use Rattle.lrc_pages.specs.declared.paged_history.PagedHistory.{PagedHistory}
use Rattle.lrc_pages.specs.declared.page_row.PageRow.{PageRow}
use Rattle.lrc_pages.specs.Fetched.{IsFetched}
use Rattle.lrc_pages.specs.MostFetched.{AreTopPages}
use Rattle.lrc_pages.specs.PagedHistory.{IsPagedTraceOf, IsTouchedPage}
use Rattle.lrc_pages.specs.PageTraffic.{IsPageTraffic}

-- the same memory on pages of so many words; the last one may end past its last address
abbrev pub paged_sizes : Sizes → ℕ → Sizes
paged_sizes s words = record s { pages = (addresses s + (words - 1)) / words; words = words }

-- it was told this trace of a memory of these sizes
pub record IsPagedOn (s : Sizes) (j : List Event) (x : PagedHistory) : Type 0 where
  pub sizes : judged_sizes_of x.sizes ≡ paged_sizes s x.sizes.words
  pub told : IsPagedTraceOf j x

-- so was each of these
abbrev pub ArePagedTraces : Sizes → List Event → List PagedHistory → Type 0
ArePagedTraces s j xs = (k : ℕ) (x : PagedHistory) → slice_get xs k ≡ Some x → IsPagedOn s j x

-- a trace of a memory of these sizes may have these events
abbrev pub AreTracedEvents : Sizes → List Event → Type 0
AreTracedEvents s es = (k : ℕ) (e : Event) → EventAt es k e → IsWithinLawfulTrace s e

-- how many words their pages have
abbrev pub paged_words : List PagedHistory → List ℕ
paged_words xs = map (λ (x : PagedHistory). x.sizes.words) xs

-- the row is what that trace costs, with its fetches on pages of so many words: there is one history that the trace is with them,
-- and the row has what that costs, how many pages it accesses, and so many at most of those that it fetches most
pub record IsPageRow (most : ℕ) (s : Sizes) (j : List Event) (row : PageRow) : Type 0 where
  pub history : List Event
  pub fetched : IsFetched (paged_sizes s row.words) j history
  pub messages : row.messages ≡ messages history
  pub traffic : IsPageTraffic history row.traffic
  pub touched : HasPageImageCount (IsTouchedPage (paged_sizes s row.words) history) row.touched
  pub top : AreTopPages history most row.top.items

abbrev pub row_words : List PageRow → List ℕ
row_words rows = map (λ (row : PageRow). row.words) rows

-- there is such a row for each of these numbers of words, in order
pub record ArePageRows (most : ℕ) (s : Sizes) (j : List Event) (words : List ℕ) (rows : List PageRow) : Type 0 where
  pub words_are : row_words rows ≡ words
  pub each : (k : ℕ) (row : PageRow) → slice_get rows k ≡ Some row → IsPageRow most s j row
