-- The words that contracts name, passed on from one place. Declares nothing.
pub use Rattle.lrc_pages.specs.Fetched.{AccessesPage, FetchedLaw, IsDueFetch, IsFetched, IsFetchedAccess, IsFetchedByKind, OneFetchedLaw, did_if, due_fetch, is_a_fetch}
pub use Rattle.lrc_pages.specs.PageTraffic.{ArePageCosts, IsPageCost, IsPageTraffic}
pub use Rattle.lrc_pages.specs.PageTallies.{ArePageTallies, IsPageTallied, page_fetched_words, page_fetches}
pub use Rattle.lrc_pages.specs.MostFetched.{AreMostFetched, AreTopPages, IsFirstBelow, IsToldAfter, IsToldBefore, IsToldNext, top_page_numbers}
pub use Rattle.lrc_pages.specs.WholeCopies.{AreWholeCopies, HasTaken, HasWholeCopiesOf, IsFoundWhole, takes_of, whole_at, whole_copy_at}
pub use Rattle.lrc_pages.specs.PagedHistory.{AreReadInSizes, AreTouchedPages, IsFetchMade, IsPageMarked, IsPagedHistoryOf, IsPagedTraceOf, IsReadInSizes, IsTouchedPage}
pub use Rattle.lrc_pages.specs.PagedTraces.{ArePageRows, ArePagedTraces, AreTracedEvents, IsPageRow, IsPagedOn, paged_sizes, paged_words, row_words}
pub use Rattle.lrc_pages.specs.PageStreams.{ArePagedByWords, ArePagedIfBegun, HasPagesToRead, IsFoundOnPages, IsPageFaultInBytes, IsPageStream}
pub use Rattle.lrc_pages.specs.PagesCommand.{ArePagesFound, IsPagesCommandDone, IsPagesFaultOfInput, IsPagesStatusOf, pages_told}
