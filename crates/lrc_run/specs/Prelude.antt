-- The words that contracts name, passed on from one place. Declares nothing.
pub use Rattle.lrc_run.specs.RunCalls.{HaveRunCallsOfWalks, HasRunCallsOfInstruction, IsRunCallUnderway, HasRunCallsAndFetches, HasRunCallsOfLoads, IsRunCallOfTake, AreRunCallsTried, HasRunCallsOfWalk}
pub use Rattle.lrc_run.specs.RunSteps.{AreAtRunSteps, IsAtRunStep}
pub use Rattle.lrc_run.specs.RunTurns.{AreRunTurnsSeenAhead, AreRunTurnsTaken, AreRunTurns, HaveGoneOnAfterRunTurns, HaveGoneOnInRunTurns, IsRunTurnRound, SeesRunTurnsOf, IsTurnOfRun, IsRunTurnDeadlockSeen, HasOnlySeenRunTurns, RunTurnMakes}
pub use Rattle.lrc_run.specs.DrawnOrders.{AreDrawnOrderProcessors, drawn_order_chosen, drawn_order_tried, pace_drawing}
pub use Rattle.lrc_run.specs.DrawnTurns.{HasDrawnNoTurn, HasDrawnTurn, HaveArrivedAtRunSteps, HaveGoneOnAfterWandering, HaveWandered}
pub use Rattle.lrc_run.specs.FollowedEnds.{HaveFollowedToEnd, IsFollowedEndAfter, IsFollowedEndReportAfter, IsFollowedEndReportWith}
pub use Rattle.conformance.specs.RoundOrders.{round_ordered}
pub use Rattle.conformance.specs.ScriptReports.{IsScriptReport}
pub use Rattle.conformance.specs.ScriptTurns.{script_turn_instruction, script_turn_progress_after}
pub use Rattle.lrc_run.specs.ScheduledTurns.{IsScheduledTurnFault}
pub use Rattle.lrc_run.specs.ReportLaws.{RaceFreeReportLaw}
pub use Rattle.lrc_run.specs.FailedOutcomes.{IsFaultOfFailedOutcome, IsFirstFailedOutcome, NoOutcomeFailed, NoOutcomeFailedSo, is_failed_outcome_stuck}
pub use Rattle.lrc_run.specs.Threads.{AreThreadResults, AreThreadResultsOf, AreThreadsStarted, ThreadErrand, IsThreadResultOf, IsWalkResult}
pub use Rattle.lrc_run.specs.LooksInVain.{HasGivenUpInstruction, HasGivenUpWalk, HasLookedAgain, IsToldNoneComes}
pub use Rattle.lrc_run.specs.ClusterRuns.{IsClusterEnd, IsClusterReport, IsClusterRun, lock_choice_width}
pub use Rattle.cluster.specs.NewClusters.{IsClusterLockOf}
