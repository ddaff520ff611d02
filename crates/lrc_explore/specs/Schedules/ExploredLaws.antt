-- What is promised of the runs of a script whose schedules were searched.
use Rattle.std.specs.Prelude.{ℕ, ◌≡◌, ◌++◌, false, IsTrue, Some, List, length, map, replicate, slice_get}
use Rattle.base.specs.InOrderOnce.{Has}
use Rattle.journal.specs.declared.event.Event.{Event}
use Rattle.journal.specs.declared.event.Kind.{Kind}
use Rattle.journal.specs.DidEvent.{did}
use Rattle.journal.specs.ReplayMemory.{Replays}
use Rattle.journal.specs.ExplainedAnswers.{Explained}
use Rattle.journal.specs.Races.{RaceFree}
use Rattle.journal.specs.WellFormed.{WellFormed}
use Rattle.lrc_script.specs.Plan.{Plan}
use Rattle.lrc_script.specs.Lawful.{IsLawful, plan_addresses}
use Rattle.lrc_report.specs.declared.report.Report.{Report}
use Rattle.conformance.specs.ScriptBegins.{BeginsScript}
use Rattle.conformance.specs.Follows.{plan_sizes, is_fetch, Follows}
use Rattle.conformance.specs.ScriptReports.{IsScriptReport}
use Rattle.explore.specs.Prefixes.FlatBeginnings.{AreFlatBeginningsRaceFree}
use Rattle.explore.specs.declared.outcomes.answer.Explored.{Explored}
use Rattle.explore.specs.declared.outcomes.answer.Hanging.TheVariants as hanging
use Rattle.explore.specs.declared.outcomes.answer.ShownOutcome.{ShownOutcome}
use Rattle.explore.specs.declared.outcomes.answer.Verdict.TheVariants as verdict
use Rattle.explore.specs.Explored.{IsExplored, shown_outcome}
use Rattle.explore.specs.FlatOutcomes.{AreFlatOutcomeReplies}
use Rattle.explore.specs.declared.outcomes.telling.Detail.{Detail}
use Rattle.explore.specs.OutcomeTelling.{AreOutcomeTellingReplies, outcome_telling_of_script}

-- an explained history that only begins a script, of which no beginning on one flat memory races, has no race and replays
abbrev pub ExploredScheduleBegunLaw : Type 0
ExploredScheduleBegunLaw = (s : Plan) (h : List Event) → AreFlatBeginningsRaceFree s → WellFormed (plan_sizes s) h → Explained h → BeginsScript s h
    → RaceFree h × Replays (replicate (plan_addresses s) 0) h

-- a search has found the script race-free, by this detail
pub record ExploredScheduleNeverRaces (s : Plan) (d : Detail) (answer : Explored) : Type 0 where
  pub most : ℕ
  pub explored : IsExplored s d most answer
  pub verdict : answer.verdict ≡ verdict.RaceFree

-- and that it never hangs
pub record ExploredScheduleNeverHangs (s : Plan) (d : Detail) (answer : Explored) : Type 0 where
  pub found : ExploredScheduleNeverRaces s d answer
  pub hanging : answer.hanging ≡ hanging.Never

-- the words end with these
pub record AreExploredScheduleLastWords (words last : List ℕ) : Type 0 where
  pub front : List ℕ
  pub are : words ≡ front ++ last

-- the words that a report shows
abbrev pub explored_schedule_words_shown : Report → List ℕ
explored_schedule_words_shown r = map (λ (x : ℕ × ℕ). x.1) r.shown.items

-- what the loads of the history answered is one of the outcomes, so far as it is told; it ends at processor 0 with what the
-- report shows, and so does what is told, if each processor has a section
pub record IsExploredScheduleListed (s : Plan) (d : Detail) (outcomes : List ShownOutcome) (r : Report) (h : List Event) : Type 0 where
  pub answered : List (List ℕ)
  pub are : AreFlatOutcomeReplies s h answered
  pub replies : List (List ℕ)
  pub told : AreOutcomeTellingReplies s (outcome_telling_of_script s d) h replies
  pub listed : Has (map shown_outcome outcomes) replies
  pub shown : (words : List ℕ) → slice_get answered 0 ≡ Some words → AreExploredScheduleLastWords words (explored_schedule_words_shown r)
  pub ends : length s.sections ≡ s.processors → (words : List ℕ) → slice_get replies 0 ≡ Some words
      → AreExploredScheduleLastWords words (explored_schedule_words_shown r)

-- the report says race-free, and where all outcomes were found its history is listed
pub record IsExploredScheduleForetold (s : Plan) (d : Detail) (answer : Explored) (r : Report) (h : List Event) : Type 0 where
  pub race_free : r.racy ≡ false
  pub listed : IsTrue answer.are_all → IsExploredScheduleListed s d answer.outcomes.items r h

-- a search that finds a script race-free foretells each report of it, by its whole history
abbrev pub ExploredScheduleReportLaw : Type 0
ExploredScheduleReportLaw = (s : Plan) (d : Detail) (answer : Explored) (r : Report) → ExploredScheduleNeverRaces s d answer → (is : IsScriptReport s r)
    → IsExploredScheduleForetold s d answer r is.history

-- the history has begun the script, and isn't whole
pub record IsExploredScheduleUnfinished (s : Plan) (h : List Event) : Type 0 where
  pub well_formed : WellFormed (plan_sizes s) h
  pub explained : Explained h
  pub begins : BeginsScript s h
  pub unfinished : ¬ Follows s h

-- and no call may come next; fetches are no calls
pub record IsExploredScheduleStuck (s : Plan) (h : List Event) : Type 0 where
  pub begun : IsExploredScheduleUnfinished s h
  pub stuck : (p : ℕ) (k : Kind) → is_fetch k ≡ false → WellFormed (plan_sizes s) (did h p k) → ¬ BeginsScript s (did h p k)

-- if a search finds a script race-free and no hang, no history of it is stuck
abbrev pub ExploredScheduleNeverStuckLaw : Type 0
ExploredScheduleNeverStuckLaw = (s : Plan) (d : Detail) (answer : Explored) (h : List Event) → ExploredScheduleNeverHangs s d answer → ¬ IsExploredScheduleStuck s h

-- this call may come next
pub record CanExploredScheduleContinue (s : Plan) (h : List Event) : Type 0 where
  pub processor : ℕ
  pub kind : Kind
  pub call : is_fetch kind ≡ false
  pub well_formed : WellFormed (plan_sizes s) (did h processor kind)
  pub begins : BeginsScript s (did h processor kind)

-- if a search finds a lawful script race-free and no hang, each history of it that isn't whole may go on by some call
abbrev pub ExploredScheduleGoesOnLaw : Type 0
ExploredScheduleGoesOnLaw = (s : Plan) (d : Detail) (answer : Explored) (h : List Event) → IsLawful s → ExploredScheduleNeverHangs s d answer
    → IsExploredScheduleUnfinished s h → CanExploredScheduleContinue s h
