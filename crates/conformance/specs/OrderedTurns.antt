-- What comes of a run by turns.
use Rattle.std.specs.Prelude.{ℕ, ◌≡◌, ◌==◌, cond, Option, Some, List, [], ◌++◌, map, slice_get}
use Rattle.lrc_script.specs.Plan.{Plan}
use Rattle.lrc_report.specs.declared.report.Report.{Report}
use Rattle.conformance.specs.Follows.{calls_of, load_of}
use Rattle.conformance.specs.declared.ended.Ended.{Ended}
use Rattle.conformance.specs.declared.ended.Ended.TheVariants.{Halted, Whole}
use Rattle.conformance.specs.declared.ended.Halt.{Halt}
use Rattle.conformance.specs.declared.progress.TurnProgress.TheVariants.{Passed}
use Rattle.conformance.specs.RunEnds.{IsRunJournalSoFar}
use Rattle.conformance.specs.RoundOrders.{round_order}
use Rattle.conformance.specs.ScriptReports.{IsScriptReport}
use Rattle.conformance.specs.ScriptTurns.{AreReachedByScriptTurns, ScriptTurnStage}

-- a report of the script's run by turns in these orders: in its history all processors have passed the closing barrier,
-- and then processor 0 has loaded what is shown
pub record IsReportByOrderedTurns (s : Plan) (orders : ℕ → List ℕ) (r : Report) : Type 0 where
  pub report : IsScriptReport s r
  pub stages : List ScriptTurnStage
  pub reached : AreReachedByScriptTurns s orders report.history stages (map load_of r.shown.items)
  pub passed : (p : ℕ) (x : ScriptTurnStage) → slice_get stages p ≡ Some x → x.progress ≡ Passed
  pub calls_are : (p : ℕ) (x : ScriptTurnStage) → slice_get stages p ≡ Some x
      → calls_of report.history p ≡ x.calls ++ cond (p == 0) (map load_of r.shown.items) []

-- or its journal so far, which is a deadlock: in its history the processors have come so far
pub record IsHaltByOrderedTurns (s : Plan) (orders : ℕ → List ℕ) (halt : Halt) : Type 0 where
  pub journal : IsRunJournalSoFar s halt.journal
  pub least : halt.processor ≡ 0
  pub stages : List ScriptTurnStage
  pub reached : AreReachedByScriptTurns s orders journal.history stages []
  pub calls_are : (p : ℕ) (x : ScriptTurnStage) → slice_get stages p ≡ Some x → calls_of journal.history p ≡ x.calls

-- one of the two
abbrev pub IsEndByOrderedTurns : Plan → (ℕ → List ℕ) → Ended → Type 0
IsEndByOrderedTurns s orders (Whole report) = IsReportByOrderedTurns s orders report
IsEndByOrderedTurns s orders (Halted halt) = IsHaltByOrderedTurns s orders halt

-- by turns in these orders the script gets into a deadlock, of which this is the least processor
abbrev pub IsStuckByOrderedTurns : Plan → (ℕ → List ℕ) → ℕ → Type 0
IsStuckByOrderedTurns s orders p = (halt : Halt) × IsHaltByOrderedTurns s orders halt × (p ≡ halt.processor)

-- the orders of a seed, for the script's processors
abbrev pub ordered_turns_of_seed : Plan → Option ℕ → ℕ → List ℕ
ordered_turns_of_seed s seed round = round_order seed s.processors round
