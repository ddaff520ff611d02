-- The words that contracts name, passed on from one place. Declares nothing.
pub use Rattle.lrc_explore.specs.Schedules.ExploredLaws.{ExploredScheduleBegunLaw, ExploredScheduleGoesOnLaw, ExploredScheduleNeverStuckLaw, ExploredScheduleReportLaw}
