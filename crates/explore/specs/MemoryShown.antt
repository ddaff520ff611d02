-- What this memory shows of a script, by schedules of `step`.
use Rattle.std.specs.Prelude.{ℕ, ◌≡◌, ◌≢◌, ◌⊎◌, true, false, List, Ok, Result}
use Rattle.base.specs.InOrderOnce.{Has}
use Rattle.journal.specs.declared.event.Event.{Event}
use Rattle.lrc_script.specs.Plan.{Plan}
use Rattle.lrc_report.specs.declared.report.Report.{Report}
use Rattle.conformance.specs.declared.ended.Ended.{Ended}
use Rattle.conformance.specs.declared.ended.Ended.TheVariants.{Whole}
use Rattle.conformance.specs.declared.schedule.Schedule.{Schedule}
use Rattle.conformance.specs.declared.schedule.ScheduleFault.{ScheduleFault}
use Rattle.conformance.specs.ScriptReports.{ScriptReportHasHistory}
use Rattle.explore.specs.declared.outcomes.answer.ScriptOutcome.{ScriptOutcome}
use Rattle.explore.specs.declared.outcomes.telling.Detail.{Detail}
use Rattle.explore.specs.Explored.{explored_outcome}
use Rattle.explore.specs.OutcomeTelling.{AreOutcomeTellingReplies, outcome_telling_of_script}
use Rattle.explore.specs.declared.memory.shown.MemoryShowing.{MemoryShowing}
use Rattle.explore.specs.declared.memory.shown.MemoryShowing.TheVariants as showing
use Rattle.explore.specs.declared.memory.shown.MemoryUntil.{MemoryUntil}
use Rattle.explore.specs.declared.memory.shown.MemoryUntil.TheVariants as until
use Rattle.explore.specs.declared.memory.shown.MemoryShown.{MemoryShown}

-- what comes of a script by these turns
abbrev pub ComesBySchedule : Type 1
ComesBySchedule = Plan → List ℕ → Result Ended ScheduleFault → Type 0

-- a whole run comes by these turns, and its history shows this, told by this detail
pub record IsShownBySchedule (comes : ComesBySchedule) (s : Plan) (d : Detail) (turns : List ℕ) (replies : List (List ℕ)) : Type 0 where
  pub report : Report
  pub came : comes s turns (Ok (Whole report))
  pub history : List Event
  pub tells : ScriptReportHasHistory s report history
  pub told : AreOutcomeTellingReplies s (outcome_telling_of_script s d) history replies

-- each outcome's schedule shows it
abbrev pub IsMemoryShown : ComesBySchedule → Plan → Detail → MemoryShown → Type 0
IsMemoryShown comes s d x = (outcome : ScriptOutcome) (schedule : Schedule) → Has x.outcomes.entries (outcome, schedule)
    → IsShownBySchedule comes s d schedule.turns.items (explored_outcome outcome)

-- no outcome is equal to this
abbrev pub IsNotMemoryShown : MemoryShown → List (List ℕ) → Type 0
IsNotMemoryShown x replies = (outcome : ScriptOutcome) (schedule : Schedule) → Has x.outcomes.entries (outcome, schedule)
    → explored_outcome outcome ≢ replies

-- if a schedule is named, it is that of an equal outcome; else there is none, and whether all were looked for is said
abbrev pub IsMemoryShowing : MemoryShown → List (List ℕ) → MemoryShowing → Type 0
IsMemoryShowing x replies (showing.Shown schedule) =
    (outcome : ScriptOutcome) × Has x.outcomes.entries (outcome, schedule.now) × (explored_outcome outcome ≡ replies)
IsMemoryShowing x replies showing.Never = (x.are_all ≡ true) × IsNotMemoryShown x replies
IsMemoryShowing x replies showing.Undecided = (x.are_all ≡ false) × IsNotMemoryShown x replies

-- the outcome that is named has the schedule
abbrev pub IsMemoryUntil : MemoryShown → MemoryUntil → Type 0
IsMemoryUntil x (until.Shown outcome schedule) = Has x.outcomes.entries (outcome.now, schedule.now)
IsMemoryUntil x until.Never = x.are_all ≡ true
IsMemoryUntil x until.Undecided = x.are_all ≡ false

-- at most an equal outcome has come in, with this schedule
abbrev pub IsMemoryShownMore : MemoryShown → MemoryShown → ScriptOutcome → Schedule → Type 0
IsMemoryShownMore x y outcome schedule = (o : ScriptOutcome) (t : Schedule) → Has y.outcomes.entries (o, t)
    → Has x.outcomes.entries (o, t) ⊎ ((explored_outcome o ≡ explored_outcome outcome) × (t ≡ schedule))
