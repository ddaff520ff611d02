use Rattle.std.proofs.Common.{codes}
use Rattle.clap.specs.Words.{with_rule}
use Rattle.clap.specs.declared.builder.value_parser.ValueParser.TheVariants as vp
use Rattle.lrc_options.specs.OptionRules.{drawn_option_rules, number_option_rule}
use Rattle.lrc_options.proofs.MatchedOptions.{matched_option_with_rule}
use Rattle.lrc_options.proofs.clap_commands.clap_draw_command.Goals as goal

pub returns : goal.returns
returns c =
    let drawn = drawn_option_rules (vp.Names c.args.patterns) in
    let processors = with_rule drawn (number_option_rule (codes "processors") 1 16) in
    let pages = with_rule processors (number_option_rule (codes "pages") 1 64) in
    let words = with_rule pages (number_option_rule (codes "words") 1 64) in
    let locks = with_rule words (number_option_rule (codes "locks") 1 32) in
    let flags = with_rule locks (number_option_rule (codes "flags") 1 32) in
    let one = matched_option_with_rule _ drawn _ _ c.clap_number_arg.ensures.rule (c.with_clap_arg-command.ensures drawn c.clap_drawn_command-command.ensures) in
    let two = matched_option_with_rule _ processors _ _ c.clap_number_arg-2.ensures.rule (c.with_clap_arg-command-2.ensures processors one) in
    let three = matched_option_with_rule _ pages _ _ c.clap_number_arg-3.ensures.rule (c.with_clap_arg-command-3.ensures pages two) in
    let four = matched_option_with_rule _ words _ _ c.clap_number_arg-4.ensures.rule (c.with_clap_arg-command-4.ensures words three) in
    let five = matched_option_with_rule _ locks _ _ c.clap_number_arg-5.ensures.rule (c.with_clap_arg-command-5.ensures locks four) in
    matched_option_with_rule _ flags _ _ c.clap_number_arg-6.ensures.rule (c.with_clap_arg.ensures flags five)
