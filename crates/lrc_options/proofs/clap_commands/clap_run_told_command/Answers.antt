use Rattle.std.proofs.Common.{codes}
use Rattle.clap.specs.Words.{with_rule}
use Rattle.clap.specs.declared.builder.value_parser.ValueParser.TheVariants as vp
use Rattle.lrc_options.specs.OptionRules.{events_option_rule, flagged_option_rules, html_option_rule, schedule_option_rule, seed_option_rule, state_option_rule, svg_option_rule}
use Rattle.lrc_options.proofs.MatchedOptions.{matched_option_own_rule, matched_option_with_rule}
use Rattle.lrc_options.proofs.clap_commands.clap_run_told_command.Goals as goal

pub returns : goal.returns
returns c =
    let locks = vp.Names c.args.locks in
    let flagged = flagged_option_rules (codes "explain") seed_option_rule locks svg_option_rule in
    let paged = with_rule flagged html_option_rule in
    let scheduled = with_rule paged schedule_option_rule in
    let stated = with_rule scheduled state_option_rule in
    let cut = with_rule stated events_option_rule in
    let page = matched_option_with_rule _ flagged _ _ c.clap_flag_arg.ensures.rule (c.with_clap_arg-command.ensures flagged
    (matched_option_own_rule _ (codes "explain") _ seed_option_rule locks svg_option_rule c.clap_seed_arg-own.ensures.rule
    c.clap_flagged_command-command.ensures)) in
    let one = matched_option_with_rule _ paged _ _ c.clap_schedule_arg.ensures.rule (c.with_clap_arg-command-2.ensures paged page) in
    let two = matched_option_with_rule _ scheduled _ _ c.clap_flag_arg-2.ensures.rule (c.with_clap_arg-command-3.ensures scheduled one) in
    let three = matched_option_with_rule _ stated _ _ c.clap_text_arg.ensures.rule (c.with_clap_arg-command-4.ensures stated two) in
    matched_option_with_rule _ cut _ _ c.clap_text_arg-2.ensures.rule (c.with_clap_arg.ensures cut three)
