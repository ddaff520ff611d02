-- The words that contracts name, passed on from one place. Declares nothing.
pub use Rattle.cluster.specs.Copies.Backlogs.{IsPlaceInBacklog, IsInsertedInBacklog, backlog_of_none, backlog_read_from}
pub use Rattle.cluster.specs.Copies.PageReplica.{AllFitPageReplica, PageReplica, IsPageReplicaOwner, page_replica_fetched, may_use_page_replica, page_replica_words_if, page_replica_record_words}
pub use Rattle.cluster.specs.Copies.PageReplica.{page_replica_written_at, zero_page_replica}
pub use Rattle.cluster.specs.Copies.MissingRecordCounts.{FitMissingRecordCounts, AreMissingRecordCounts}
pub use Rattle.cluster.specs.Copies.Local.{Local, blank_local_copy, calls, new_local, local_noted}
pub use Rattle.cluster.specs.Copies.Sound.{AreSoundSizes, IsSound}
pub use Rattle.cluster.specs.Copies.AfterNews.{AreAfterNews, AreSameCopiesAfterNews, AreZerosAfterNews, CopiesHaveRoomForNews, IsAfterNews, IsSameCopyAfterNews}
pub use Rattle.cluster.specs.Copies.AfterNews.{CopyMayLackNews, CopiesMayLackNews, copy_cleaned_after_news, locks_held_after_news}
pub use Rattle.cluster.specs.Copies.MarkedCopiesAndHarvests.{AreHarvestsOfCopies, CopiesToHarvestAreMarked, LacksMarkedCopyFrom, IsLowestMarkedCopyFrom}
