use Rattle.std.proofs.Common.{codes}
use Rattle.clap.specs.Words.{new_app, with_rule}
use Rattle.clap.specs.declared.builder.value_parser.ValueParser.TheVariants as vp
use Rattle.lrc_options.specs.OptionRules.{pattern_option_rule}
use Rattle.lrc_options.proofs.MatchedOptions.{matched_option_with_rule}
use Rattle.lrc_options.proofs.clap_commands.clap_drawn_command.Goals as goal

pub returns : goal.returns
returns c =
    let bare = new_app (codes "draw") in
    let drawn = with_rule bare (pattern_option_rule (vp.Names c.args.patterns)) in
    let one = matched_option_with_rule _ bare _ _ c.clap_pattern_arg.ensures.rule (c.with_clap_arg-command.ensures bare c.clap_new_command.ensures) in
    matched_option_with_rule _ drawn _ _ c.clap_number_arg.ensures.rule (c.with_clap_arg.ensures drawn one)
