use Rattle.std.proofs.Common.{◌∙◌, Bool, List, Option, Some, true, replicate, refl, subst, codes}
use Rattle.std.specs.Prelude.{MatchOption, ℕ}
use Rattle.clap.specs.Words.{Text, found_of, rows_of}
use Rattle.clap.proofs.WalkLemmas.{first_value-rows}
use Rattle.lrc_options.specs.OptionRules.{AreProcessorsByOptionRule, option_rule_most_processors}
use Rattle.lrc_options.specs.Ranges.{most_trace_processors}
use Rattle.lrc_options.proofs.command_line.command_line_processors.Goals as goal

pub returns-in-Some : goal.returns-in-Some
returns-in-Some c =
    let n = option_rule_most_processors (rows_of (found_of c.args.matches.now)) in
    subst
    (λ (o : Option Text). MatchOption c.processors.result ((marks : List Bool) → ¬ AreProcessorsByOptionRule n o marks)
    (AreProcessorsByOptionRule n o)) (c.in-Some.ensures ∙ first_value-rows (found_of c.args.matches.now) (codes "processors"))
    (subst
    (λ (m : ℕ). MatchOption c.processors.result ((marks : List Bool) → ¬ AreProcessorsByOptionRule m (Some c.in-Some.text.now) marks)
    (AreProcessorsByOptionRule m (Some c.in-Some.text.now))) c.command_line_most_processors.ensures c.processors.ensures)

pub returns-in-None : goal.returns-in-None
returns-in-None c =
    subst
    (λ (o : Option Text). AreProcessorsByOptionRule (option_rule_most_processors (rows_of (found_of c.args.matches.now))) o
    (replicate most_trace_processors true))
    (c.in-None.ensures ∙ first_value-rows (found_of c.args.matches.now) (codes "processors")) refl
