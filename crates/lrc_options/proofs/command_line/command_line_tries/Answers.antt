use Rattle.std.proofs.Common.{arith}
use Rattle.lrc_options.specs.OptionRules.{option_rule_most_tries, option_rule_default_tries}
use Rattle.lrc_options.proofs.MatchedOptions.{matched_option_number_in, matched_option_number_out, matched_option_number_none}
use Rattle.lrc_options.proofs.command_line.command_line_tries.Goals as goal

pub returns-in-Some : goal.returns-in-Some
returns-in-Some c =
    matched_option_number_in 1 option_rule_most_tries option_rule_default_tries _ c.in-Some.tries c.in-Some.ensures c.if-tries-ge1.true
    c.if-tries-le-MOST_TRIES.true

pub returns-in_default : goal.returns-in_default
returns-in_default c =
    matched_option_number_out 1 option_rule_most_tries option_rule_default_tries _ c.in-Some.tries c.in-Some.ensures (λ least most. omega arith) (omega arith)
    (omega arith)

pub returns-in_default-2 : goal.returns-in_default-2
returns-in_default-2 c =
    matched_option_number_out 1 option_rule_most_tries option_rule_default_tries _ c.in-Some.tries c.in-Some.ensures (λ least most. omega arith) (omega arith)
    (omega arith)

pub returns-in_default-3 : goal.returns-in_default-3
returns-in_default-3 c =
    matched_option_number_none 1 option_rule_most_tries option_rule_default_tries _ c.in_default.ensures (omega arith) (omega arith)
