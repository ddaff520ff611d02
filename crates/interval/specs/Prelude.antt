-- The words that contracts name, passed on from one place. Declares nothing.
pub use Rattle.interval.specs.SentIntervals.{ClosedInterval, SentIntervalPagesRise, IsSentInIntervalOrder, SentRecord}
pub use Rattle.interval.specs.KeptClosings.{KeptClosings, HasKeptClosingsBetween, kept_closings_between, is_news_of_kept_closings, is_kept_closing_of_page, kept_closings_pushed, record_of}
pub use Rattle.interval.specs.KeptClosings.{kept_closing_sent_interval, kept_closing_sent_record, kept_closings_trimmed_below, kept_closing_has_records}
pub use Rattle.interval.specs.IntervalQueues.{SameQueuedIntervals, AreIntervalQueues, IntervalQueue, interval_queue_closings, interval_queue_within, interval_queue_dropped_below}
pub use Rattle.interval.specs.PageCounts.{PageCountsGrew, PageCountsHaveRoom, counted_pages_of, counted_pages_of_changes}
