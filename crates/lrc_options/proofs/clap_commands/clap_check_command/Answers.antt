use Rattle.std.proofs.Common.{codes}
use Rattle.clap.specs.Words.{with_rule}
use Rattle.clap.specs.declared.builder.value_parser.ValueParser.TheVariants as vp
use Rattle.lrc_options.specs.OptionRules.{file_option_rules, judged_option_rules, locksets_option_rule, program_option_rule, race_is_error_option_rule, races_option_rule, suppress_option_rule}
use Rattle.lrc_options.proofs.MatchedOptions.{matched_option_with_rule}
use Rattle.lrc_options.proofs.clap_commands.clap_check_command.Goals as goal

pub returns : goal.returns
returns c =
    let file = file_option_rules (codes "check") in
    let judged = judged_option_rules file (vp.Names c.args.models) in
    let race = with_rule judged race_is_error_option_rule in
    let locks = with_rule race (locksets_option_rule (vp.Names c.args.words)) in
    let one = c.clap_judged_command-command.ensures file c.clap_file_command-command.ensures in
    let two = matched_option_with_rule _ judged _ _ c.clap_flag_arg.ensures.rule (c.with_clap_arg-command.ensures judged one) in
    let three = matched_option_with_rule _ race _ _ c.clap_locksets_arg.ensures.rule (c.with_clap_arg-command-2.ensures race two) in
    let program = with_rule locks program_option_rule in
    let most = with_rule program races_option_rule in
    let four = matched_option_with_rule _ locks _ _ c.clap_flag_arg-2.ensures.rule (c.with_clap_arg-command-3.ensures locks three) in
    let five = matched_option_with_rule _ program _ _ c.clap_number_arg.ensures.rule (c.with_clap_arg-command-4.ensures program four) in
    let suppress = with_rule most suppress_option_rule in
    let six = matched_option_with_rule _ most _ _ c.clap_text_arg.ensures.rule (c.with_clap_arg-command-5.ensures most five) in
    matched_option_with_rule _ suppress _ _ c.clap_flag_arg-3.ensures.rule (c.with_clap_arg.ensures suppress six)
