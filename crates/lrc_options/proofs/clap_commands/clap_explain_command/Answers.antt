use Rattle.clap.specs.Words.{with_rule}
use Rattle.clap.specs.declared.builder.value_parser.ValueParser.TheVariants as vp
use Rattle.lrc_options.specs.OptionRules.{told_option_rules, traced_option_rule}
use Rattle.lrc_options.proofs.MatchedOptions.{matched_option_with_rule}
use Rattle.lrc_options.proofs.clap_commands.clap_explain_command.Goals as goal

pub returns : goal.returns
returns c =
    let told = told_option_rules (vp.Names c.args.locks) in
    c.clap_judged_command.ensures (with_rule told traced_option_rule)
    (matched_option_with_rule _ told _ _ c.clap_flag_arg.ensures.rule (c.with_clap_arg-command.ensures told c.clap_run_told_command-command.ensures))
