use Rattle.std.proofs.Common.{arith}
use Rattle.lrc_options.specs.OptionRules.{option_rule_most_seed, option_rule_default_most}
use Rattle.lrc_options.proofs.MatchedOptions.{matched_option_number_in, matched_option_number_out, matched_option_number_none}
use Rattle.lrc_options.proofs.command_line.command_line_most.Goals as goal

pub returns-in-Some : goal.returns-in-Some
returns-in-Some c =
    matched_option_number_in 0 option_rule_most_seed option_rule_default_most _ c.in-Some.most c.in-Some.ensures (omega arith) c.if-most-le-MOST_SEED.true

pub returns-in_default : goal.returns-in_default
returns-in_default c =
    matched_option_number_out 0 option_rule_most_seed option_rule_default_most _ c.in-Some.most c.in-Some.ensures (λ least most. omega arith) (omega arith)
    (omega arith)

pub returns-in_default-2 : goal.returns-in_default-2
returns-in_default-2 c =
    matched_option_number_none 0 option_rule_most_seed option_rule_default_most _ c.in_default.ensures (omega arith) (omega arith)
