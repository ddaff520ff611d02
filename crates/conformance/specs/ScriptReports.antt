-- What a report says of a script's run.
use Rattle.std.specs.Prelude.{ℕ, ◌≡◌, ◌<◌, ◌↔◌, IsTrue, List, [], ◌++◌, map}
use Rattle.journal.specs.declared.event.Event.{Event}
use Rattle.journal.specs.declared.event.Kind.{Kind}
use Rattle.journal.specs.Events.{events_of}
use Rattle.journal.specs.WellFormed.{WellFormed}
use Rattle.journal.specs.ExplainedAnswers.{Explained}
use Rattle.journal.specs.CopyAnswers.{AnswersCopies}
use Rattle.journal.specs.FetchesCountGaps.{FetchesCountGaps}
use Rattle.journal.specs.Log.{LogHoldsRestOfHistory}
use Rattle.journal.specs.Races.{Race}
use Rattle.journal.specs.Traffic.{messages, records, words}
use Rattle.lrc_script.specs.Lawful.{plan_addresses}
use Rattle.lrc_script.specs.Plan.{Plan}
use Rattle.lrc_report.specs.declared.report.Report.{Report}
use Rattle.conformance.specs.Follows.{plan_sizes, Follows, calls_of, load_of}
use Rattle.conformance.specs.FlatRuns.{IsRecomputedFlat}
use Rattle.conformance.specs.CutInstructions.{HasNoCutInstruction}
use Rattle.conformance.specs.WantedAccess.{FetchesAreWanted}

-- some two accesses race
abbrev pub ScriptReportHasRace : List Event → Type 0
ScriptReportHasRace h = (i k : ℕ) × Race h i k

-- the shown words are the replies of processor 0's last loads
pub record AreRepliesOfScriptReport (calls : List Kind) (shown : List (ℕ × ℕ)) : Type 0 where
  pub front : List Kind
  pub ends : calls ≡ front ++ map load_of shown

-- no processor fetches a page but right before an access to it
abbrev pub FetchesAreNeeded : Plan → List Event → Type 0
FetchesAreNeeded s h = (p : ℕ) → p < s.processors → FetchesAreWanted s.words (events_of h p)

-- the history is well formed, explained, answers what the copies have, fetches what is missing, where an access wants it,
-- and follows the script, and its replies can be recomputed on one flat memory; the verdict, the shown words and the
-- traffic are the history's
pub record ScriptReportHasHistory (s : Plan) (r : Report) (h : List Event) : Type 0 where
  pub well_formed : WellFormed (plan_sizes s) h
  pub explained : Explained h
  pub copied : AnswersCopies (plan_sizes s) h
  pub counted : FetchesCountGaps (plan_sizes s) h
  pub fetches : FetchesAreNeeded s h
  pub follows : Follows s h
  pub recomputed : (g : List Event) × IsRecomputedFlat s h g
  pub racy : IsTrue r.racy ↔ ScriptReportHasRace h
  pub shown_addresses : map (λ (x : ℕ × ℕ). x.0) r.shown.items ≡ s.shown
  pub replies : AreRepliesOfScriptReport (calls_of h 0) r.shown.items
  pub messages_are : r.traffic.messages ≡ messages h
  pub records_are : r.traffic.records ≡ records h
  pub words_are : r.traffic.words ≡ words h

-- the journal has the script's sizes and holds what is left, after some of it was cut off, of a history of which the
-- report tells; and nothing is cut off if the script has no cut
pub record IsScriptReport (s : Plan) (r : Report) : Type 0 where
  pub processors : r.journal.processors ≡ s.processors
  pub addresses_are : r.journal.addresses ≡ plan_addresses s
  pub history : List Event
  pub taken : List Event
  pub holds : LogHoldsRestOfHistory r.journal taken history
  pub uncut : HasNoCutInstruction s → taken ≡ []
  pub tells : ScriptReportHasHistory s r history
