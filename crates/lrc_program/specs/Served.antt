-- What the program does with a script.
use Rattle.std.specs.Prelude.{ℕ, ◌≡◌, ◌≢◌, Bool, true, false, cond, List, Option, Some, Result, Ok, IfSome, is_some, option_map, string_bytes}
use Rattle.std.specs.Io.KnownBytes.{Appends}
use Rattle.lrc_script.specs.Lawful.{IsLawful}
use Rattle.lrc_script.specs.Plan.{Plan}
use Rattle.lrc_script.specs.ScriptLines.{text}
use Rattle.lrc_report.specs.declared.report.Report.{Report}
use Rattle.lrc_report.specs.ReportText.{report_text}
use Rattle.lrc_options.specs.declared.options.Options.{Options}
use Rattle.conformance.specs.declared.cause.RunFault.{RunFault}
use Rattle.conformance.specs.declared.ended.Ended.{Ended}
use Rattle.conformance.specs.declared.ended.Ended.TheVariants.{Whole}
use Rattle.conformance.specs.declared.script_runner.LockChoice.{LockChoice}
use Rattle.conformance.specs.declared.script_runner.LockChoice.TheVariants.{Array, Ticket}
use Rattle.conformance.specs.declared.schedule.ScheduleFault.{ScheduleFault}
use Rattle.conformance.specs.ScriptReports.{IsScriptReport}
use Rattle.conformance.specs.ScheduleTexts.{IsScheduleText}

-- the lock that the options ask for
abbrev pub served_lock_chosen : Options → LockChoice
served_lock_chosen o = cond o.ticket Ticket Array

-- the report came of a script by turns, with the options' lock, and their seed or the turns of a schedule; `stepped` and
-- `followed` are what comes by these
pub record IsServedByTurns (stepped : Plan → LockChoice → Option ℕ → Result Report RunFault → Type 0)
    (followed : Plan → LockChoice → List ℕ → Result Ended ScheduleFault → Type 0) (o : Options) (s : Plan)
    (report : Report) : Type 0 where
  pub by_seed : is_some o.schedule ≡ false → stepped s (served_lock_chosen o) o.seed (Ok report)
  pub by_schedule : (text : List ℕ) → option_map (λ t. string_bytes t) o.schedule ≡ Some text
      → (turns : List ℕ) × IsScheduleText text turns × followed s (served_lock_chosen o) turns (Ok (Whole report))

-- it came by the command that the options ask for, with their lock, and their tries, their seed or the turns of a schedule;
-- `ran` is what comes on threads
pub record IsServedAsAsked (ran : Plan → LockChoice → ℕ → Result Report RunFault → Type 0)
    (stepped : Plan → LockChoice → Option ℕ → Result Report RunFault → Type 0)
    (followed : Plan → LockChoice → List ℕ → Result Ended ScheduleFault → Type 0) (o : Options) (s : Plan)
    (report : Report) : Type 0 where
  pub by_threads : o.step ≡ false → ran s (served_lock_chosen o) o.tries (Ok report)
  pub by_turns : o.step ≡ true → IsServedByTurns stepped followed o s report

-- the script that was read is lawful, and its text is all that the source had
pub record IsServedScriptRead (source : Option (List ℕ)) (s : Plan) : Type 0 where
  pub lawful : IsLawful s
  pub text_is : IfSome source (λ xs. xs ≡ text s)

-- the script was run as it was asked, and the text of the report of it was written
pub record IsServedReportPrinted (asked : Plan → Report → Type 0) (journal : Bool) (script : Plan)
    (old new : Option (List ℕ)) : Type 0 where
  pub report : Report
  pub came : asked script report
  pub tells : IsScriptReport script report
  pub written : Appends old new (report_text report journal)

-- the script that the source had was run as it was asked, and the text of the report of it was written
pub record IsServed (asked : Plan → Report → Type 0) (journal : Bool)
    (source old new : Option (List ℕ)) : Type 0 where
  pub script : Plan
  pub read : IsServedScriptRead source script
  pub report : Report
  pub came : asked script report
  pub tells : IsScriptReport script report
  pub written : Appends old new (report_text report journal)

-- what the source had is no script
abbrev pub IsServedWithoutScript : Option (List ℕ) → Type 0
IsServedWithoutScript source = IfSome source (λ xs. (s : Plan) → IsLawful s → xs ≢ text s)
