-- A script that was read and then studied.
use Rattle.std.proofs.Common.{◌≡◌, ◌∙◌, ℕ, Bool, true, List, subst, sym, Option, Some, None, Result, Ok, Err, OnOk}
use Rattle.std.specs.Prelude.{IfErr, IfOk, is_some, option_map, string_bytes}
use Rattle.std.proofs.lemmas.Option.{none-some, same_Some}
use Rattle.conformance.specs.declared.ended.Ended.{Ended}
use Rattle.conformance.specs.declared.schedule.DrawnRun.{DrawnRun}
use Rattle.conformance.specs.OrderedTurns.{IsEndByOrderedTurns, ordered_turns_of_seed}
use Rattle.conformance.specs.ScheduleTexts.{IsScheduleText, schedule_orders}
use Rattle.lrc_script.specs.Plan.{Plan}
use Rattle.lrc_program.specs.Served.{IsServedWithoutScript, IsServedScriptRead}
use Rattle.lrc_options.specs.declared.options.ExplainOptions.{ExplainOptions}
use Rattle.lrc_commands.specs.declared.fault.CommandFault.{CommandFault}
use Rattle.lrc_commands.specs.ExplainCommand.{ExplainCommandWritten, is_explain_command_halted, IsExplainCommandEnd, IsExplainCommandOnSource, IsExplainCommandRun}
use Rattle.lrc_sample.specs.SampleRuns.{IsSampleOfRuns}
use Rattle.lrc_sample.specs.declared.detail.SampleDetail.{SampleDetail}
use Rattle.lrc_sample.specs.declared.sampling.Sampled.{Sampled}
use Rattle.lrc_commands.specs.SampleCommand.{IsSampleCommandAnswer, IsSampleCommandWritten, IsSampleCommandOnSource}
use Rattle.lrc_commands.specs.ExitStatus.{IsCommandExitStatusOfInput}

-- it ended by a schedule's turns
pub studied_script_scheduled_end : (o : ExplainOptions) (s : Plan) (text turns : List ℕ) (e : Ended)
    → Some text ≡ option_map (λ t. string_bytes t) o.schedule → true ≡ is_some o.schedule → IsScheduleText text turns
    → IsEndByOrderedTurns s (schedule_orders s turns) e → IsExplainCommandEnd o s e
studied_script_scheduled_end o s text turns e given some reads by = record {
  by_seed = λ none. absurd (cc);
  by_schedule = λ other is.
      let P : List ℕ → Type 0 = λ t. IsScheduleText t turns in
      (turns, subst P (same_Some text other (given ∙ is)) reads, by);
}

-- or by rounds
pub studied_script_end : (o : ExplainOptions) (s : Plan) (e : Ended) → None ≡ option_map (λ t. string_bytes t) o.schedule
    → IsEndByOrderedTurns s (ordered_turns_of_seed s o.seed) e → IsExplainCommandEnd o s e
studied_script_end o s e given by =
    record { by_seed = λ _. by; by_schedule = λ other is. absurd (none-some other (given ∙ is)) }

-- what its runs came to was written
pub studied_script_sample_written : {A : Type 0} (came : Plan → Option ℕ → DrawnRun → Type 0) (d : SampleDetail) (runs : ℕ) (json : Bool)
    (script : Plan) (old new : Option (List ℕ)) (sampled : Sampled) (result : Result A CommandFault) → IsSampleOfRuns came d script runs sampled
    → OnOk result (IsSampleCommandAnswer json old new sampled) → OnOk result (IsSampleCommandWritten came d runs json script old new)
studied_script_sample_written came d runs json script old new sampled (Ok x) tells written =
    record { sampled = sampled; tells = tells; written = written }
studied_script_sample_written came d runs json script old new sampled (Err fault) tells written = tt

-- it was sampled
pub studied_script_sampled : {A : Type 0} (came : Plan → Option ℕ → DrawnRun → Type 0) (d : SampleDetail) (runs : ℕ) (json : Bool) (script : Plan)
    (source old new : Option (List ℕ)) (result : Result A CommandFault) → IsServedScriptRead source script
    → OnOk result (IsSampleCommandWritten came d runs json script old new) → OnOk result (IsSampleCommandOnSource came d runs json source old new)
studied_script_sampled came d runs json script source old new (Ok x) read written =
    record { script = script; read = read; sample = written }
studied_script_sampled came d runs json script source old new (Err fault) read written = tt

-- its run was told
pub studied_script_told : {A : Type 0} (picture : Bool) (o : ExplainOptions) (script : Plan) (ended : Ended) (old new : Option (List ℕ))
    (result : Result (Option A) CommandFault) → IsExplainCommandEnd o script ended
    → IfOk result (λ line. is_some line ≡ is_explain_command_halted ended) → IfOk result (λ _. ExplainCommandWritten picture old new ended)
    → IfOk result (λ line. IsExplainCommandRun picture (is_some line) o script old new)
studied_script_told picture o script ended old new (Ok line) end halted told =
    record { ended = ended; end = end; halted_is = sym halted; told = told }
studied_script_told picture o script ended old new (Err fault) end halted told = tt

-- it was explained
pub studied_script_explained : {A : Type 0} (picture : Bool) (o : ExplainOptions) (script : Plan)
    (source old new : Option (List ℕ))
    (result : Result (Option A) CommandFault) → IsServedScriptRead source script
    → IfOk result (λ line. IsExplainCommandRun picture (is_some line) o script old new)
    → IfOk result (λ line. IsExplainCommandOnSource picture (is_some line) o source old new)
studied_script_explained picture o script source old new (Ok line) read told =
    record { script = script; read = read; run = told }
studied_script_explained picture o script source old new (Err fault) read told = tt

-- a fault on the way isn't the input's
pub studied_script_not_at_fault : {A : Type 0} (source : Option (List ℕ)) (result : Result A CommandFault)
    → IfErr result (λ fault. IsCommandExitStatusOfInput fault → ⊥) → IfErr result (λ fault. IsCommandExitStatusOfInput fault → IsServedWithoutScript source)
studied_script_not_at_fault source (Ok x) none = tt
studied_script_not_at_fault source (Err fault) none = λ its. absurd (none its)
