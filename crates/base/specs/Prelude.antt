-- The words that contracts name, passed on from one place. Declares nothing.
pub use Rattle.base.specs.InOrderOnce.{Has}
pub use Rattle.base.specs.LastWrite.{wrote}
pub use Rattle.base.specs.AppliedRecords.{harvest, mark_write, record_applied, records_applied}
pub use Rattle.base.specs.Limits.{most_cut, most_events, most_flags, most_held, most_in_block, most_locks}
pub use Rattle.base.specs.Limits.{most_pages, most_processors, most_words}
