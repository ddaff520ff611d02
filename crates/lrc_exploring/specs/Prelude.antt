-- The words that contracts name, passed on from one place. Declares nothing.
pub use Rattle.lrc_exploring.specs.ExploreAnswers.{AreSchedulesExplored, ExploreAnswerTextWritten, ExploreAnswerTold, ExploreAnswerWritten, ExploreCommandWritten, IsExploreAnswerJson, IsExploreAnswerTo, IsRacyShowing, IsRacyVerdict, IsScheduleAnswerTo, explore_detail, is_explore_answer_settled}
pub use Rattle.lrc_exploring.specs.ExploreJson.{HasScheduleMembers, IsAllowedJson, IsAllowedShowingJson, IsExploredFront, IsExploredJson, IsHangLine, IsOpenJson, IsScheduleLine, IsShowingFront, IsShowingJson, IsVerdictLines}
pub use Rattle.lrc_exploring.specs.ExploreJson.{allowed_answer, allowed_rules, allowed_until_rules, explored_end, explored_hang, explored_hangs, explored_race, explored_verdict, explored_wait, explored_waits, showing_end, with_schedule, with_showing}
