-- The words that contracts name, passed on from one place. Declares nothing.
pub use Rattle.lrc_check.specs.Faithful.{IsFaithfulAndCounted, IsFaithfulOnlyUpTo}
pub use Rattle.lrc_check.specs.JudgedCounts.{AreCountsJudged}
pub use Rattle.lrc_check.specs.CheckVerdicts.{IsTrueCheckVerdict, IsCheckVerdictLie, IsCheckVerdictUnexplainedNext, IsCheckVerdictRace, IsCheckVerdictTraffic, is_load_in_check_verdict, check_verdict_race_events, unjudged_in_check_verdict}
pub use Rattle.lrc_check.specs.FoundInBytes.{IsFaultFoundBeforeBytesWritten, IsFoundInBytes, IsFoundInUnfinished, IsFaultFoundInBytes}
pub use Rattle.lrc_check.specs.HeldTraces.{IsFewForHeldTrace, IsHeldTrace, IsTraceRaceApart}
pub use Rattle.lrc_check.specs.TraceJudge.{ComesNextToExplain, ComesNextToJudge, ComesNextToKeep, ComesNextToRead, TraceJudgeHasCounts, IsTraceJudgeOf}
pub use Rattle.lrc_check.specs.HistoryJudge.{ComesNextInHistory, ComesNextToHistoryLocksets, ComesNextToTally, HasHistoryLocksets, HasJudgedNext, HasJudgedToEnd, IsHistoryLocksets, IsNextPartOfHistory, IsHistoryEnd, IsHistoryEndWithin, IsHistoryJudgeOf, IsHistoryTallied, is_unjudged_next}
pub use Rattle.lrc_check.specs.TraceStreams.{HasStreamReadOn, IsFoundInStream, IsStreamEnd, IsStreamEndOf, IsStreamJudge, IsTraceStream}
pub use Rattle.lrc_check.specs.ToldLines.{told_event, told_known_event, told_known_label, told_label, told_line_label_mark, told_line_labelled, told_line}
pub use Rattle.lrc_check.specs.ToldTraces.{IsToldTraceUpToLie, IsTraceTold, is_told_trace_a_lie}
pub use Rattle.lrc_check.specs.RacingWords.{AreRacingWords, AreRacingWordsAsked, IsFirstRaceOfWord, IsRacingWordsOf, RacesNext, racing_looked_for}
pub use Rattle.lrc_check.specs.Unprotected.{AreUnprotectedTold, may_unprotected_be_sought, unprotected_looked_for}
