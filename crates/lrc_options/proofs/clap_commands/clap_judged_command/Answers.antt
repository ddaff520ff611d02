use Rattle.clap.specs.Words.{with_rule}
use Rattle.clap.specs.declared.builder.value_parser.ValueParser.TheVariants as vp
use Rattle.lrc_options.specs.OptionRules.{lax_option_rule, model_option_rule, strict_option_rule}
use Rattle.lrc_options.proofs.MatchedOptions.{matched_option_with_rule}
use Rattle.lrc_options.proofs.clap_commands.clap_judged_command.Goals as goal

pub returns : goal.returns
returns c = λ a is.
    let model = with_rule a (model_option_rule (vp.Names c.args.models)) in
    let strict = with_rule model strict_option_rule in
    let lax = with_rule strict lax_option_rule in
    let one = matched_option_with_rule _ a _ _ c.clap_model_arg.ensures.rule (c.with_clap_arg-command.ensures a is) in
    let two = matched_option_with_rule _ model _ _ c.clap_flag_arg.ensures.rule (c.with_clap_arg-command-2.ensures model one) in
    let three = matched_option_with_rule _ strict _ _ c.clap_flag_arg-2.ensures.rule (c.with_clap_arg-command-3.ensures strict two) in
    matched_option_with_rule _ lax _ _ c.clap_flag_arg-3.ensures.rule (c.with_clap_arg.ensures lax three)
