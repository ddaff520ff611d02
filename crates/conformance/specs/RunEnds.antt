-- How a run by turns may end.
use Rattle.std.specs.Prelude.{◌≡◌, List, []}
use Rattle.journal.specs.declared.event.Event.{Event}
use Rattle.journal.specs.CopyAnswers.{AnswersCopies}
use Rattle.journal.specs.FetchesCountGaps.{FetchesCountGaps}
use Rattle.journal.specs.Deadlocks.{IsDeadlock}
use Rattle.journal.specs.ExplainedAnswers.{Explained}
use Rattle.journal.specs.Log.{LogHoldsRestOfHistory, Log}
use Rattle.journal.specs.WellFormed.{WellFormed}
use Rattle.lrc_script.specs.Lawful.{plan_addresses}
use Rattle.lrc_script.specs.Plan.{Plan}
use Rattle.conformance.specs.ScriptBegins.{BeginsScript}
use Rattle.conformance.specs.Follows.{plan_sizes}
use Rattle.conformance.specs.declared.ended.Ended.{Ended}
use Rattle.conformance.specs.declared.ended.Ended.TheVariants.{Halted, Whole}
use Rattle.conformance.specs.CutInstructions.{HasNoCutInstruction}
use Rattle.conformance.specs.ScriptReports.{FetchesAreNeeded, IsScriptReport}

-- the journal has the script's sizes and holds what is left, after some of it was cut off, of a history that is well
-- formed and explained, answers copies, fetches what is missing, where an access wants it, and begins the script, and
-- that is a deadlock: each processor waits, and none is ready; and nothing is cut off if the script has no cut
pub record IsRunJournalSoFar (s : Plan) (j : Log) : Type 0 where
  pub processors : j.processors ≡ s.processors
  pub addresses_are : j.addresses ≡ plan_addresses s
  pub history : List Event
  pub taken : List Event
  pub holds : LogHoldsRestOfHistory j taken history
  pub uncut : HasNoCutInstruction s → taken ≡ []
  pub well_formed : WellFormed (plan_sizes s) history
  pub explained : Explained history
  pub copied : AnswersCopies (plan_sizes s) history
  pub counted : FetchesCountGaps (plan_sizes s) history
  pub fetches : FetchesAreNeeded s history
  pub begins : BeginsScript s history
  pub deadlock : IsDeadlock (plan_sizes s) history

-- a report of the script, or such a journal, with the least processor that waits: in a deadlock that is processor 0
abbrev pub IsRunEnd : Plan → Ended → Type 0
IsRunEnd s (Whole report) = IsScriptReport s report
IsRunEnd s (Halted halt) = IsRunJournalSoFar s halt.journal × (halt.processor ≡ 0)
