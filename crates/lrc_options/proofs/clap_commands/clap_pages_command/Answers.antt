use Rattle.std.proofs.Common.{codes}
use Rattle.clap.specs.Words.{with_rule}
use Rattle.lrc_options.specs.OptionRules.{eager_option_rule, file_option_rules, page_words_option_rule, svg_option_rule, top_option_rule}
use Rattle.lrc_options.proofs.MatchedOptions.{matched_option_with_rule}
use Rattle.lrc_options.proofs.clap_commands.clap_pages_command.Goals as goal

pub returns : goal.returns
returns c =
    let file = file_option_rules (codes "pages") in
    let words = with_rule file page_words_option_rule in
    let top = with_rule words top_option_rule in
    let eager = with_rule top eager_option_rule in
    let svg = with_rule eager svg_option_rule in
    let one = matched_option_with_rule _ file _ _ c.clap_text_arg.ensures.rule (c.with_clap_arg-command.ensures file c.clap_file_command-command.ensures) in
    let two = matched_option_with_rule _ words _ _ c.clap_number_arg.ensures.rule (c.with_clap_arg-command-2.ensures words one) in
    let three = matched_option_with_rule _ top _ _ c.clap_flag_arg.ensures.rule (c.with_clap_arg-command-3.ensures top two) in
    let four = matched_option_with_rule _ eager _ _ c.clap_flag_arg-2.ensures.rule (c.with_clap_arg-command-4.ensures eager three) in
    matched_option_with_rule _ svg _ _ c.clap_flag_arg-3.ensures.rule (c.with_clap_arg.ensures svg four)
