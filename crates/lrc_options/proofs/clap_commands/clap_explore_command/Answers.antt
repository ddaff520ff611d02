use Rattle.std.proofs.Common.{codes}
use Rattle.clap.specs.Words.{with_rule}
use Rattle.clap.specs.declared.builder.value_parser.ValueParser.TheVariants as vp
use Rattle.lrc_options.specs.OptionRules.{file_option_rules, most_option_rule, outcomes_option_rule, until_option_rule}
use Rattle.lrc_options.proofs.MatchedOptions.{matched_option_with_rule}
use Rattle.lrc_options.proofs.clap_commands.clap_explore_command.Goals as goal

pub returns : goal.returns
returns c =
    let file = file_option_rules (codes "explore") in
    let most = with_rule file most_option_rule in
    let until = with_rule most until_option_rule in
    let outcomes = with_rule until (outcomes_option_rule (vp.Names c.args.details)) in
    let one = matched_option_with_rule _ file _ _ c.clap_most_arg.ensures.rule (c.with_clap_arg-command.ensures file c.clap_file_command-command.ensures) in
    let two = matched_option_with_rule _ most _ _ c.clap_text_arg.ensures.rule (c.with_clap_arg-command-2.ensures most one) in
    let three = matched_option_with_rule _ until _ _ c.clap_outcomes_arg.ensures.rule (c.with_clap_arg-command-3.ensures until two) in
    matched_option_with_rule _ outcomes _ _ c.clap_flag_arg.ensures.rule (c.with_clap_arg.ensures outcomes three)
