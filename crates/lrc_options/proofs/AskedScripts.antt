-- What the matches of `run` and `step` give, and what refuses them.
use Rattle.std.proofs.Common.{◌≡◌, false, List, Some, Result, Ok, Err, [], inl, inr}
use Rattle.std.specs.Prelude.{IfOk, OnOk}
use Rattle.clap.specs.Words.{Row, Text, fault_of, subcommand_of}
use Rattle.clap.specs.Values.{kind_of}
use Rattle.clap.specs.declared.builder.value_parser.ValueParser.{ValueParser}
use Rattle.clap.specs.declared.error.Error.{Error}
use Rattle.clap.specs.declared.error.kind.ErrorKind.TheVariants.{OutOfMemory}
use Rattle.lrc_options.specs.Clashes.{do_seed_and_schedule_clash}
use Rattle.lrc_options.specs.OptionRules.{AreOptionsByRulesOfScript}
use Rattle.lrc_options.specs.ScriptWords.{AreLockNames, AreScriptOptionsGiven, AreScriptOptionsRefused, IsScriptUnanswered, script_word_rules}
use Rattle.lrc_options.specs.declared.options.Options.{Options}

-- what is answered is what the words ask for
pub script_options_given_by : (locks : ValueParser) (words : List Text) (name : Text) (rows : List Row) (result : Result Options Error)
    → AreLockNames locks → fault_of (script_word_rules locks) words ≡ []
    → subcommand_of (script_word_rules locks) words ≡ Some (name, rows)
    → OnOk result (do_seed_and_schedule_clash rows ≡ false) → IfOk result (AreOptionsByRulesOfScript name rows)
    → IfOk result (AreScriptOptionsGiven words)
script_options_given_by locks words name rows (Ok o) are none command apart told = record {
  locks = locks;
  locks_are = are;
  faultless = none;
  name = name;
  rows = rows;
  command = command;
  apart = apart;
  asked = told;
}
script_options_given_by locks words name rows (Err e) are none command apart told = tt

-- running out of memory refuses any words
pub script_options_out_of_memory : (locks : ValueParser) (words : List Text) (e : Error) → AreLockNames locks
    → kind_of e ≡ OutOfMemory → AreScriptOptionsRefused words e
script_options_out_of_memory locks words e are is = record { locks = locks; locks_are = are; kind = inl (inl is) }

-- and so do a seed and a schedule
pub script_options_refused_by : (locks : ValueParser) (words : List Text) (name : Text) (rows : List Row) (e : Error)
    → AreLockNames locks → subcommand_of (script_word_rules locks) words ≡ Some (name, rows)
    → IsScriptUnanswered rows e → AreScriptOptionsRefused words e
script_options_refused_by locks words name rows e are command (inl memory) = script_options_out_of_memory locks words e are memory
script_options_refused_by locks words name rows e are command (inr clash) = record {
  locks = locks;
  locks_are = are;
  kind = inr (record { name = name; rows = rows; command = command; clash = clash.0; kind = clash.1 });
}
