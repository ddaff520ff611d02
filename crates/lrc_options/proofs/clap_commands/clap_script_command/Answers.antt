use Rattle.clap.specs.Words.{rule_of, with_rule}
use Rattle.lrc_options.specs.OptionRules.{file_option_rules}
use Rattle.lrc_options.proofs.MatchedOptions.{matched_option_with_rule}
use Rattle.lrc_options.proofs.clap_commands.clap_script_command.Goals as goal

pub returns : goal.returns
returns c =
    let file = file_option_rules c.args.name.now in
    let own = with_rule file (rule_of c.args.own) in
    matched_option_with_rule _ own _ _ c.clap_lock_arg.ensures.rule
    (c.with_clap_arg.ensures own (c.with_clap_arg-command.ensures file c.clap_file_command-command.ensures))
