-- The words that contracts name, passed on from one place. Declares nothing.
pub use Rattle.causes.specs.Source.{AreSources, IsSource, IsSourceAt}
pub use Rattle.causes.specs.Heard.{IsHeard}
pub use Rattle.causes.specs.Part.{IsInPart}
pub use Rattle.causes.specs.Edges.{EdgeFromOther, EdgeLetsOn}
pub use Rattle.causes.specs.Index.{AreIndexRowsEmpty, AreIndexedClosings, AreIndexedClosingsOf, AreIndexedTurns, IsIndex}
pub use Rattle.causes.specs.News.{AreIncomingNews, AreNewsRising, IsNewsOfStep, IsNews, NewsCutsAround}
pub use Rattle.causes.specs.HandOvers.{AreAllHandOvers, AreHandOvers, AreHandOversFrom}
pub use Rattle.causes.specs.TakingEvents.{AreAllTakingEvents, AreTakingEventNumbers, IsFirstTakingEventAbove, NoTakingEventAbove}
pub use Rattle.causes.specs.Paths.{ArePathWays, PathEntryIfAny, IsPathLookup, IsPathWay}
pub use Rattle.causes.specs.FinalWaits.{AreThoseInFinalWait, AreFinalWaits, FinalWaitAsksBefore, FinalWaitWithoutEvents, FinalWaitForAbsent, IsFinalWait}
pub use Rattle.causes.specs.Apart.{IsRaceApart}
pub use Rattle.causes.specs.Dues.{AreAllDues, DuesBelow, AreDues, IsOneOfDues}
pub use Rattle.causes.specs.NumberedStores.{AreNumberedStoreRows, IsLastNumberedStoreUnder, NoNumberedStoreUnder}
pub use Rattle.causes.specs.Origins.{AreOrigins, IsOriginAmong, IsOriginAt, AreOriginsNamed, IsOriginNamed, IsOriginNamedAt}
pub use Rattle.causes.specs.FetchedOrigins.{AreOriginsBefore, AreOriginsPartFetched, IsFetchedOriginFetch, IsFetchedOriginLaterApplied, IsFetchedOriginLookup, IsFetchedOriginAfter, FetchedOriginLastApplied}
pub use Rattle.causes.specs.Notices.{AreNoticesAt, HasNoticeOf, NoticesBelow}
pub use Rattle.causes.specs.ClosedRecords.{AreClosedRecords, AreClosedRecordWordsBelow, IsClosedRecordValue, IsNotInClosedRecord, IsClosedRecordIndex}
pub use Rattle.causes.specs.EventStates.{AreEventStates, IsEventStateDirty, IsEventState, IsEventStateStale, IsEventStateIfAsked}
pub use Rattle.causes.specs.EventWrites.{AreAllEventWrites, AreEventWrites, AreEventWritesAmong, IsEventWriteOfStore, IsEventWriteRange}
pub use Rattle.causes.specs.WaitingCircles.{AreWaitCircles, IsWaitingCircle, waited_for, waits_for}
