-- The words that contracts name, passed on from one place. Declares nothing.
pub use Rattle.judge.specs.JudgedSizes.{AreJudgedSizes, AreJudgedSizesSmall, AreStreamedSizes, judged_sizes_most_addresses, judged_sizes_of, most_judged_events, most_judged_processors}
pub use Rattle.judge.specs.SparseTables.{IsSparse, IsSparseFor, IsSparseRowFrom, IsSparseRowOf, IsSparseRowWith, IsSparseWith, most_sparse_values, sparse_at, sparse_chunk_rows, sparse_mark, sparse_room, sparse_row}
pub use Rattle.judge.specs.LaxWellFormed.{LaxAskLaw, LaxLaw, LaxMayFollow, WellFormedOrLax, lax_ask_of}
pub use Rattle.judge.specs.Why.{WhyIsInTurn, IsWhyVerdict, WhyMayTake, WhyWaitsFor, WhyLaw}
pub use Rattle.judge.specs.FrontTells.{FrontTellsFirstAsk, FrontTellsNobodyAsks, FrontTellsHistory, front_tells_holder_after, front_tells_flag_set_after}
pub use Rattle.judge.specs.HistoryRanges.{HistoryRangeLaw}
pub use Rattle.judge.specs.GapTally.{GapTallyAdds, IsGapTallyFor, is_gap_tally_between, gap_tally_mark, gap_tally_numbers, gap_tally_place_of}
pub use Rattle.judge.specs.FetchGaps.{AreFetchGapsOf, AreFetchGapsLong, FetchGapBroughtUpTo, FetchGapStoreInPage, TellsFetchGaps, fetch_gap_time}
pub use Rattle.judge.specs.Miscounted.{IsNotMiscounted, IsEventInSizes, Miscounts}
pub use Rattle.judge.specs.Models.{ExplainedUnderModel, IsFlatModelWord, IsModelAnswer, ModelAnswersStayLaw, ModelConcurrentStore, ModelsAgreeLaw}
pub use Rattle.judge.specs.CutEntries.{CutEntriesJoinedAt, CutEntriesMarkedAt}
pub use Rattle.judge.specs.CutRows.{cut_entry}
pub use Rattle.judge.specs.NumberedCuts.{numbered_cut_at, numbered_cut_kept}
pub use Rattle.judge.specs.Cuts.{AreCuts, AreCutsLong, CutsAfterArrival, IsCutOf}
pub use Rattle.judge.specs.NearestRaces.{NearestRaceAccessesAreKept, AreNearestRacesOf, IsFirstRaceTo, IsNearestRaceLastUnknown, IsNearestRace, IsNearestRaceTo, IsNearestRaceUnknown, nearest_race_row}
pub use Rattle.judge.specs.LastFlatStores.{HasLastFlatStores, KeepsLastFlatStore}
pub use Rattle.judge.specs.Owed.{AreOwedBy, IsOwedRacy, PermitsOwed}
pub use Rattle.judge.specs.SizedHistory.{IsHistoryInSizes, IsSizedHistoryOfJournal, IsHistoryOfSizes, IsSizedHistory, most_in_sized_history, whole_sized_history}
pub use Rattle.judge.specs.KeptStores.{AreKeptStoresOf, KeptStoresAreOf, kept_store_row, kept_stores_of}
pub use Rattle.judge.specs.KeptInPasts.{AreUnknownFrom, HasUnknownOfValue, IsKeptStoreFollowed, IsKeptStoreIndex, IsLastKeptInPastOf, IsLastKeptStoreBelow, IsUnknownWithin, NoKeptStoreBelow}
pub use Rattle.judge.specs.PermittedStores.{AreLatestStores, IsUnorderedStore}
pub use Rattle.judge.specs.StoresInPasts.{IsHiddenInPast, IsLatestInPast}
pub use Rattle.judge.specs.MovedCuts.{AreMovedCuts, AreMovedRows, AreMovedStores, IsMovedCut, KeepsCuts}
pub use Rattle.judge.specs.StoredSteps.{AreStoredAmounts, IsStoredAsked, stored_before, stored_total, stored_total_next}
pub use Rattle.judge.specs.StoredCounts.{AreStoredCountsOf, StoredStepAdds, stored_row}
pub use Rattle.judge.specs.DueCounts.{AreDueAmountsBetween, AreDueAmountsFew, AreDueFetchedCuts, DueAmountsAmong, IsDueFetchedCut, TellsDueCounts}
pub use Rattle.judge.specs.AskedPlaces.{AreAskedPlaces, asked_steps_from, is_asked_between}
