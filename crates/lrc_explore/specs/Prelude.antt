-- The words that contracts name, passed on from one place. Declares nothing.
pub use Rattle.lrc_explore.specs.ExploreTexts.{IsExploreText, IsExploreTextOfHangEvents, IsExploreTextOfHang, IsExploreTextOfMetHang, IsExploreTextOfQuiet, IsExploreTextOfRacy, IsExploreTextOfSchedule}
pub use Rattle.lrc_explore.specs.ExploreTexts.{ExploreTextUnwritten, ExploreTextWritten, explore_text_event_at, explore_text_outcomes_end, explore_text_outcomes, explore_text_racy, explore_text_schedule, explore_text_states}
pub use Rattle.lrc_explore.specs.Showings.{AreShowingWords, IsShowingText, IsShowingTextOfRace, IsShowingTextOfRun, IsShowingUnshown, ShowingWritten}
pub use Rattle.lrc_explore.specs.AllowedTexts.{AllowedTextWritten, IsAllowedText, allowed_text_beginnings, allowed_text_count, allowed_text_end, allowed_text_told}
pub use Rattle.lrc_explore.specs.AllowedShowings.{AllowedShowingWritten, IsAllowedShowingAnswer, IsAllowedShowingOfMemory, IsAllowedShowingOfRun, IsAllowedShowingOfSchedule, IsAllowedShowingText}
pub use Rattle.lrc_explore.specs.OpenTexts.{IsOpenText, OpenTextWritten}
