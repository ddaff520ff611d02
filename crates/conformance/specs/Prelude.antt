-- The words that contracts name, passed on from one place. Declares nothing.
pub use Rattle.conformance.specs.ScriptBegins.{BeginsScript}
pub use Rattle.conformance.specs.Follows.{plan_sizes}
pub use Rattle.conformance.specs.RecomputedLaws.{OnlyRecomputedLaw, RaceFreeRecomputedLaw, RecomputedLaw}
pub use Rattle.conformance.specs.OrderedTurns.{IsEndByOrderedTurns, IsHaltByOrderedTurns, IsReportByOrderedTurns, IsStuckByOrderedTurns, ordered_turns_of_seed}
pub use Rattle.conformance.specs.CutInstructions.{HasCutInstruction, HasNoCutInstruction}
pub use Rattle.conformance.specs.Draws.{Drawing, drawing_of, draws_turns_about, draws_walk, next_drawing}
pub use Rattle.conformance.specs.DrawnRuns.{HasArrivedAtDrawnEnd, IsRunOfDraws, drawing_after_of, drawn_tries_of, drawn_turns_of}
pub use Rattle.conformance.specs.RunEnds.{IsRunEnd, IsRunJournalSoFar}
pub use Rattle.conformance.specs.RoundOrders.{round_order_drawn, round_order_generator, round_ordered, round_order}
pub use Rattle.conformance.specs.ScriptReports.{ScriptReportHasRace, IsScriptReport, ScriptReportHasHistory}
pub use Rattle.conformance.specs.SameTurns.{SameEndsLaw, SameReportsLaw, SameTurnsLaw, SameValuesLaw}
pub use Rattle.conformance.specs.ScheduleTexts.{IsScheduleMisfit, IsScheduleFault, IsScheduleText, schedule_item_text, schedule_text_item_turns, schedule_text, schedule_orders, schedule_turns_text}
pub use Rattle.conformance.specs.TurnCallsLaw.{TurnCallsLaw}
pub use Rattle.conformance.specs.ScriptTurns.{AreReachedByScriptTurns, AreScriptTurns, ScriptTurnStage, script_turn_instruction, script_turn_progress_after}
