-- A script that was read and then printed.
use Rattle.std.proofs.Common.{ℕ, ◌≡◌, Bool, true, List, Option, Some, None, Result, Ok, Err, OnOk, subst, ◌∙◌}
use Rattle.std.specs.Prelude.{IfErr, IfOk, is_some, option_map, string_bytes}
use Rattle.std.proofs.lemmas.Option.{none-some, same_Some}
use Rattle.lrc_options.specs.declared.options.Options.{Options}
use Rattle.lrc_report.specs.declared.report.Report.{Report}
use Rattle.lrc_script.specs.Plan.{Plan}
use Rattle.conformance.specs.declared.cause.RunFault.{RunFault}
use Rattle.conformance.specs.declared.ended.Ended.{Ended}
use Rattle.conformance.specs.declared.ended.Ended.TheVariants.{Whole}
use Rattle.conformance.specs.declared.script_runner.LockChoice.{LockChoice}
use Rattle.conformance.specs.declared.schedule.ScheduleFault.{ScheduleFault}
use Rattle.conformance.specs.ScheduleTexts.{IsScheduleText}
use Rattle.lrc_program.specs.declared.fault.ProgramFault.{ProgramFault}
use Rattle.lrc_program.specs.Served.{IsServedByTurns, IsServedWithoutScript, IsServedReportPrinted, IsServedScriptRead, IsServed, served_lock_chosen}
use Rattle.lrc_program.specs.ExitStatus.{IsProgramExitStatusOfScript}

-- what holds of a value makes what follows from it hold
pub printed_script_follows : {T E : Type 0} {P Q : T → Type 0} (r : Result T E) → ((x : T) → P x → Q x) → IfOk r P → IfOk r Q
printed_script_follows (Ok x) follows holds = follows x holds
printed_script_follows (Err e) follows holds = tt

-- a report by a schedule's turns
pub printed_script_by_schedule : (stepped : Plan → LockChoice → Option ℕ → Result Report RunFault → Type 0)
    (followed : Plan → LockChoice → List ℕ → Result Ended ScheduleFault → Type 0) (o : Options) (s : Plan)
    (lock : LockChoice) (text : List ℕ) (r : Report) → lock ≡ served_lock_chosen o
    → Some text ≡ option_map (λ t. string_bytes t) o.schedule → true ≡ is_some o.schedule
    → ((turns : List ℕ) × IsScheduleText text turns × followed s lock turns (Ok (Whole r)))
    → IsServedByTurns stepped followed o s r
printed_script_by_schedule stepped followed o s lock text r chosen given some came = record {
  by_seed = λ none. absurd (cc);
  by_schedule = λ other is.
      let P : List ℕ → Type 0 = λ t. (turns : List ℕ) × IsScheduleText t turns
      × followed s (served_lock_chosen o) turns (Ok (Whole r)) in
      let Q : LockChoice → Type 0 = λ l. followed s l came.0 (Ok (Whole r)) in
      subst P (same_Some text other (given ∙ is)) (came.0, came.1, subst Q chosen came.2);
}

-- a report by rounds
pub printed_script_by_rounds : (stepped : Plan → LockChoice → Option ℕ → Result Report RunFault → Type 0)
    (followed : Plan → LockChoice → List ℕ → Result Ended ScheduleFault → Type 0) (o : Options) (s : Plan)
    (lock : LockChoice) (r : Report) → lock ≡ served_lock_chosen o
    → None ≡ option_map (λ t. string_bytes t) o.schedule → stepped s lock o.seed (Ok r)
    → IsServedByTurns stepped followed o s r
printed_script_by_rounds stepped followed o s lock r chosen given came = record {
  by_seed = λ _. let Q : LockChoice → Type 0 = λ l. stepped s l o.seed (Ok r) in subst Q chosen came;
  by_schedule = λ other is. absurd (none-some other (given ∙ is));
}

-- its report was written
pub printed_script_served : {A : Type 0} (asked : Plan → Report → Type 0) (journal : Bool) (script : Plan)
    (source old new : Option (List ℕ)) (result : Result A ProgramFault) → IsServedScriptRead source script
    → OnOk result (IsServedReportPrinted asked journal script old new) → OnOk result (IsServed asked journal source old new)
printed_script_served asked journal script source old new (Ok x) read printed = record {
  script = script;
  read = read;
  report = printed.report;
  came = printed.came;
  tells = printed.tells;
  written = printed.written;
}
printed_script_served asked journal script source old new (Err fault) read printed = tt

-- a fault on the way isn't the script's
pub printed_script_not_at_fault : {A : Type 0} (source : Option (List ℕ)) (result : Result A ProgramFault)
    → IfErr result (λ fault. IsProgramExitStatusOfScript fault → ⊥) → IfErr result (λ fault. IsProgramExitStatusOfScript fault → IsServedWithoutScript source)
printed_script_not_at_fault source (Ok x) none = tt
printed_script_not_at_fault source (Err fault) none = λ its. absurd (none its)
