use Rattle.std.proofs.Common.{◌≡◌, codes, rules}
use Rattle.clap.specs.Words.{new_rule, rule_of}
use Rattle.lrc_options.specs.OptionRules.{file_option_rules}
use Rattle.lrc_options.proofs.MatchedOptions.{matched_option_with_rule}
use Rattle.lrc_options.proofs.clap_commands.clap_follows_command.Goals as goal

pub returns : goal.returns
returns c =
    let file = file_option_rules (codes "follows") in
    let trace_is : rule_of c.help.result ≡ new_rule (codes "TRACE") = search rules in
    matched_option_with_rule _ file _ _ trace_is (c.with_clap_arg.ensures file c.clap_file_command-command.ensures)
