-- What the program does with a script that is explained.
use Rattle.std.specs.Prelude.{ℕ, ◌≡◌, ⊤, Bool, true, false, List, Option, Some, is_some, option_map, string_bytes}
use Rattle.lrc_script.specs.Plan.{Plan}
use Rattle.conformance.specs.declared.ended.Ended.{Ended}
use Rattle.conformance.specs.declared.ended.Ended.TheVariants.{Halted, Whole}
use Rattle.conformance.specs.OrderedTurns.{IsEndByOrderedTurns, ordered_turns_of_seed}
use Rattle.conformance.specs.ScheduleTexts.{IsScheduleText, schedule_orders}
use Rattle.lrc_options.specs.declared.options.ExplainOptions.{ExplainOptions}
use Rattle.lrc_explain.specs.ExplainTexts.{ExplainTextWritten}
use Rattle.lrc_program.specs.Served.{IsServedScriptRead}

-- whether it is a run that can't go on
abbrev pub is_explain_command_halted : Ended → Bool
is_explain_command_halted (Whole report) = false
is_explain_command_halted (Halted halt) = true

-- what is told of a run was written; of its picture nothing is said
abbrev pub ExplainCommandWritten : Bool → Option (List ℕ) → Option (List ℕ) → Ended → Type 0
ExplainCommandWritten true old new ended = ⊤
ExplainCommandWritten false old new ended = ExplainTextWritten old new ended

-- the script's run by turns ended so: by those of the schedule if one is given, else in the orders of the seed
pub record IsExplainCommandEnd (o : ExplainOptions) (script : Plan) (ended : Ended) : Type 0 where
  pub by_seed : is_some o.schedule ≡ false → IsEndByOrderedTurns script (ordered_turns_of_seed script o.seed) ended
  pub by_schedule : (text : List ℕ) → option_map (λ t. string_bytes t) o.schedule ≡ Some text
      → (turns : List ℕ) × IsScheduleText text turns × IsEndByOrderedTurns script (schedule_orders script turns) ended

-- the script was run by turns as it was asked, as far as it goes, and the run was told or drawn
pub record IsExplainCommandRun (picture halted : Bool) (o : ExplainOptions) (script : Plan) (old new : Option (List ℕ))
    : Type 0 where
  pub ended : Ended
  pub end : IsExplainCommandEnd o script ended
  pub halted_is : is_explain_command_halted ended ≡ halted
  pub told : ExplainCommandWritten picture old new ended

-- so was the script that the source had
pub record IsExplainCommandOnSource (picture halted : Bool) (o : ExplainOptions) (source old new : Option (List ℕ)) : Type 0 where
  pub script : Plan
  pub read : IsServedScriptRead source script
  pub run : IsExplainCommandRun picture halted o script old new
