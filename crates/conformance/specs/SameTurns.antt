-- What the turns determine of a script's run: where each event stands, and the values, which loads have from copies.
use Rattle.std.specs.Prelude.{ℕ, ◌≡◌, Bool, true, false, List, [], map}
use Rattle.journal.specs.declared.event.Event.{Event}
use Rattle.journal.specs.declared.event.Kind.{Kind}
use Rattle.journal.specs.CopyAnswers.{AnswersCopies}
use Rattle.journal.specs.WellFormed.{WellFormed}
use Rattle.lrc_script.specs.Lawful.{IsLawful}
use Rattle.lrc_script.specs.Plan.{Plan}
use Rattle.lrc_report.specs.declared.report.Report.{Report}
use Rattle.conformance.specs.ScriptBegins.{BeginsScript}
use Rattle.conformance.specs.OrderedTurns.{IsEndByOrderedTurns, IsReportByOrderedTurns}
use Rattle.conformance.specs.Follows.{plan_sizes}
use Rattle.conformance.specs.Like.{SameButValues, like_without_value}
use Rattle.conformance.specs.ScriptTurns.{AreScriptTurns, ScriptTurnStage, first_script_turn_stages}
use Rattle.conformance.specs.declared.ended.Ended.{Ended}
use Rattle.conformance.specs.declared.ended.Ended.TheVariants.{Halted, Whole}
use Rattle.conformance.specs.declared.progress.TurnProgress.{TurnProgress}

-- the calls, with 0 for the values that loads answer and that stores store
abbrev pub same_turn_calls_valueless : List Kind → List Kind
same_turn_calls_valueless kinds = map like_without_value kinds

-- how far a processor is, its calls so, and its open block so
abbrev pub same_turn_stage_valueless : ScriptTurnStage → TurnProgress × List Kind × List Kind
same_turn_stage_valueless x = (x.progress, same_turn_calls_valueless x.calls, same_turn_calls_valueless x.pending)

-- the histories have the same events at the same places except for values, fetches and their counts too, and each
-- processor is as far, by the same calls, with the same open block, except for values
pub record AreSameTurns (g h : List Event) (xs ys : List ScriptTurnStage) : Type 0 where
  pub events : SameButValues g h
  pub stages : map same_turn_stage_valueless xs ≡ map same_turn_stage_valueless ys

-- so are those that the same turns of a script make
abbrev pub SameTurnsLaw : Type 0
SameTurnsLaw = (s : Plan) (turns : List ℕ) (g h : List Event) (xs ys : List ScriptTurnStage) → WellFormed (plan_sizes s) g
    → WellFormed (plan_sizes s) h → AreScriptTurns s turns [] (first_script_turn_stages s) g xs
    → AreScriptTurns s turns [] (first_script_turn_stages s) h ys → AreSameTurns g h xs ys

-- the history is well formed and begins the script, and each of its loads answers the word of its processor's copy
pub record BeginsWithCopies (s : Plan) (h : List Event) : Type 0 where
  pub well_formed : WellFormed (plan_sizes s) h
  pub copied : AnswersCopies (plan_sizes s) h
  pub begins : BeginsScript s h

-- two such histories of a lawful script that are the same except for values are the same
abbrev pub SameValuesLaw : Type 0
SameValuesLaw = (s : Plan) (g h : List Event) → IsLawful s → BeginsWithCopies s g → BeginsWithCopies s h → SameButValues g h → g ≡ h

-- the history of a run's end
abbrev pub history_by_turns : (s : Plan) (orders : ℕ → List ℕ) (e : Ended) → IsEndByOrderedTurns s orders e → List Event
history_by_turns s orders (Whole report) end = end.report.history
history_by_turns s orders (Halted halt) end = end.journal.history

-- whether all processors did their sections
abbrev pub ended_whole : Ended → Bool
ended_whole (Whole report) = true
ended_whole (Halted halt) = false

-- both runs came to their end or neither did, by one history
pub record AreSameEnds (d e : Ended) (g h : List Event) : Type 0 where
  pub whole : ended_whole d ≡ ended_whole e
  pub same : g ≡ h

-- so are any two runs of a lawful script by turns in the same orders
abbrev pub SameEndsLaw : Type 0
SameEndsLaw = (s : Plan) (orders : ℕ → List ℕ) (d e : Ended) (x : IsEndByOrderedTurns s orders d) (y : IsEndByOrderedTurns s orders e) → IsLawful s
    → AreSameEnds d e (history_by_turns s orders d x) (history_by_turns s orders e y)

-- the reports have one verdict, show the same words and count the same traffic
pub record AreSameReports (q r : Report) : Type 0 where
  pub racy : q.racy ≡ r.racy
  pub shown : q.shown.items ≡ r.shown.items
  pub messages_are : q.traffic.messages ≡ r.traffic.messages
  pub records_are : q.traffic.records ≡ r.traffic.records
  pub words_are : q.traffic.words ≡ r.traffic.words

-- so do any two reports of such runs
abbrev pub SameReportsLaw : Type 0
SameReportsLaw = (s : Plan) (orders : ℕ → List ℕ) (q r : Report) → IsReportByOrderedTurns s orders q → IsReportByOrderedTurns s orders r → IsLawful s
    → AreSameReports q r
