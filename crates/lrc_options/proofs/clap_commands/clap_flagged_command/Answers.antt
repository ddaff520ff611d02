use Rattle.clap.specs.Words.{rule_of}
use Rattle.clap.specs.declared.builder.value_parser.ValueParser.TheVariants as vp
use Rattle.lrc_options.specs.OptionRules.{script_option_rules}
use Rattle.lrc_options.proofs.MatchedOptions.{matched_option_with_rule}
use Rattle.lrc_options.proofs.clap_commands.clap_flagged_command.Goals as goal

pub returns : goal.returns
returns c =
    let script = script_option_rules c.args.name.now (rule_of c.args.own) (vp.Names c.args.locks) in
    matched_option_with_rule _ script _ _ c.clap_flag_arg.ensures.rule (c.with_clap_arg.ensures script c.clap_script_command-command.ensures)
