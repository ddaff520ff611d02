-- What a trace costs on pages of one size, as it is told.
use Rattle.std.specs.Prelude.{ℕ, ◌≡◌, ◌≢◌, ◌⊎◌, ◌<◌, ◌≤◌, ◌↔◌, ◌^◌, ◌+◌, true, false, List, length, slice_get, Option, Some, vec_len}
use Rattle.journal.specs.declared.event.Event.{Event}
use Rattle.journal.specs.declared.event.Kind.{Kind}
use Rattle.journal.specs.BroughtCopy.{BroughtCopyHasNoGap}
use Rattle.journal.specs.Events.{EventAt}
use Rattle.journal.specs.PageImages.{HasPageImageCount}
use Rattle.journal.specs.Sizes.{Sizes}
use Rattle.judge.specs.DueCounts.{TellsDueCounts}
use Rattle.judge.specs.JudgedSizes.{AreStreamedSizes, judged_sizes_of}
use Rattle.judge.specs.Miscounted.{IsEventInSizes}
use Rattle.lrc_pages.specs.declared.paged_history.PagedHistory.{PagedHistory}
use Rattle.lrc_pages.specs.declared.touched_pages.TouchedPages.{TouchedPages}
use Rattle.lrc_pages.specs.Fetched.{AccessesPage, IsDueFetch, IsFetched, did_if, is_a_fetch}
use Rattle.lrc_pages.specs.PageTallies.{ArePageTallies}
use Rattle.lrc_pages.specs.PageTraffic.{ArePageCosts, IsPageTraffic}
use Rattle.lrc_pages.specs.WholeCopies.{AreWholeCopies}

-- some event accesses page n
abbrev pub IsTouchedPage : Sizes → List Event → ℕ → Type 0
IsTouchedPage s h n = (i : ℕ) × (e : Event) × EventAt h i e × AccessesPage s e.kind n

-- page n is marked now, and counted if it wasn't marked
pub record IsPageMarked (old new : TouchedPages) (n : ℕ) : Type 0 where
  pub room : vec_len new.seen ≡ vec_len old.seen
  pub now : slice_get new.seen.items n ≡ Some true
  pub others : (m : ℕ) → m ≢ n → slice_get new.seen.items m ≡ slice_get old.seen.items m
  pub count : ((slice_get old.seen.items n ≡ Some true) × (new.count ≡ old.count))
      ⊎ ((slice_get old.seen.items n ≢ Some true) × (new.count ≡ old.count + 1))

-- the pages that are accessed are marked and counted
pub record AreTouchedPages (s : Sizes) (h : List Event) (t : TouchedPages) : Type 0 where
  pub room : vec_len t.seen ≡ s.pages
  pub seen : (n : ℕ) → (slice_get t.seen.items n ≡ Some true) ↔ IsTouchedPage s h n
  pub count : HasPageImageCount (IsTouchedPage s h) t.count
  pub few : t.count ≤ length h

-- it was told this history, fetches and all
pub record IsPagedHistoryOf (h : List Event) (x : PagedHistory) : Type 0 where
  pub sizes : AreStreamedSizes (judged_sizes_of x.sizes)
  pub words : 0 < x.sizes.words
  pub same : x.counts.stored.sizes ≡ x.sizes
  pub count : x.count ≡ length h
  pub few : length h < 2 ^ 31
  pub counts : TellsDueCounts h x.counts
  pub pages : x.copies.pages ≡ x.sizes.pages
  pub copies : AreWholeCopies (judged_sizes_of x.sizes) h x.copies
  pub touched : AreTouchedPages (judged_sizes_of x.sizes) h x.touched
  pub tallies : ArePageTallies (judged_sizes_of x.sizes) h x.tallies
  pub traffic : IsPageTraffic h x.traffic
  pub costs : ArePageCosts (length h) x.traffic

-- it was told the history h and the fetch of page n that p had to make, if any, after which p's copy lacks nothing
pub record IsFetchMade (s : Sizes) (h : List Event) (p n : ℕ) (x : PagedHistory) : Type 0 where
  pub fetch : Option Kind
  pub due : IsDueFetch s h p n fetch
  pub told : IsPagedHistoryOf (did_if h p fetch) x
  pub whole : BroughtCopyHasNoGap s (did_if h p fetch) p n

-- it was told this trace, and has made its fetches
pub record IsPagedTraceOf (j : List Event) (x : PagedHistory) : Type 0 where
  pub history : List Event
  pub fetched : IsFetched (judged_sizes_of x.sizes) j history
  pub told : IsPagedHistoryOf history x

-- unless it is a fetch, which is left out, the event's numbers are within the sizes
abbrev pub IsReadInSizes : Sizes → Event → Type 0
IsReadInSizes s e = is_a_fetch e.kind ≡ false → IsEventInSizes s e

-- so are those of each of these events
abbrev pub AreReadInSizes : Sizes → List Event → Type 0
AreReadInSizes s es = (k : ℕ) (e : Event) → EventAt es k e → IsReadInSizes s e
