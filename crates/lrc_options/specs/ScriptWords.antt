-- What the words give to a program that runs scripts alone.
use Rattle.std.specs.Prelude.{◌≡◌, ◌⊎◌, true, false, List, [], ◌∷◌, Some, codes}
use Rattle.clap.specs.Words.{App, HasKind, Row, Text, fault_of, subcommand_of, with_subcommand}
use Rattle.clap.specs.Values.{kind_of}
use Rattle.clap.specs.declared.builder.value_parser.ValueParser.{ValueParser}
use Rattle.clap.specs.declared.error.Error.{Error}
use Rattle.clap.specs.declared.error.kind.ErrorKind.TheVariants.{ArgumentConflict, OutOfMemory}
use Rattle.lrc_options.specs.Clashes.{do_seed_and_schedule_clash}
use Rattle.lrc_options.specs.OptionRules.{AreOptionsByRulesOfScript, OptionTakesNames, bare_option_rules, run_option_rules, step_option_rules}
use Rattle.lrc_options.specs.declared.options.Options.{Options}

-- `lrc` with the commands `run` and `step` alone, whose locks this parser lets through
abbrev pub script_word_rules : ValueParser → App
script_word_rules locks = with_subcommand (with_subcommand bare_option_rules (run_option_rules locks).top) (step_option_rules locks).top

-- the parser takes the names of the two locks
abbrev pub AreLockNames : ValueParser → Type 0
AreLockNames locks = OptionTakesNames (codes "array" ∷ codes "ticket" ∷ []) locks

-- what the words ask for, by the matches of a simple command, which find no fault in them; no seed stands beside a schedule
pub record AreScriptOptionsGiven (words : List Text) (o : Options) : Type 0 where
  pub locks : ValueParser
  pub locks_are : AreLockNames locks
  pub faultless : fault_of (script_word_rules locks) words ≡ []
  pub name : Text
  pub rows : List Row
  pub command : subcommand_of (script_word_rules locks) words ≡ Some (name, rows)
  pub apart : do_seed_and_schedule_clash rows ≡ false
  pub asked : AreOptionsByRulesOfScript name rows o

-- the words give a seed and a schedule, and the fault says so
pub record IsScriptWordConflict (locks : ValueParser) (words : List Text) (e : Error) : Type 0 where
  pub name : Text
  pub rows : List Row
  pub command : subcommand_of (script_word_rules locks) words ≡ Some (name, rows)
  pub clash : do_seed_and_schedule_clash rows ≡ true
  pub kind : kind_of e ≡ ArgumentConflict

-- a command isn't answered: memory ran out, or a seed and a schedule are given
abbrev pub IsScriptUnanswered : List Row → Error → Type 0
IsScriptUnanswered rows e = (kind_of e ≡ OutOfMemory) ⊎ ((do_seed_and_schedule_clash rows ≡ true) × (kind_of e ≡ ArgumentConflict))

-- memory ran out, or the matches of that command find a fault of this kind in the words, or a seed and a schedule are given
pub record AreScriptOptionsRefused (words : List Text) (e : Error) : Type 0 where
  pub locks : ValueParser
  pub locks_are : AreLockNames locks
  pub kind : HasKind (fault_of (script_word_rules locks) words) e ⊎ IsScriptWordConflict locks words e
