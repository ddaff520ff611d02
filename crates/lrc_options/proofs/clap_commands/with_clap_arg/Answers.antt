use Rattle.std.proofs.Common.{◌∙◌, ap}
use Rattle.clap.specs.Words.{App, rule_of, with_rule}
use Rattle.lrc_options.specs.OptionRules.{IsCommandByOptionRules}
use Rattle.lrc_options.proofs.MatchedOptions.{matched_option_if_ok_map, matched_option_if_ok_was, matched_option_still_local}
use Rattle.lrc_options.proofs.clap_commands.with_clap_arg.Goals as goal

pub returns : goal.returns
returns c = λ a is.
    let command = matched_option_if_ok_was (IsCommandByOptionRules a) _ _ c.in_ok-command.was is in
    matched_option_if_ok_map c.arg.result (λ made adds. record {
      shape = adds.shape c.requires ∙ ap (λ (b : App). with_rule b (rule_of c.args.option)) command.shape;
      local = matched_option_still_local _ _ _ adds.globals command.local c.requires;
    }) c.arg.ensures
