use Rattle.std.proofs.Common.{◌∙◌, ap, ap₂}
use Rattle.clap.specs.Words.{App, with_subcommand}
use Rattle.lrc_options.specs.OptionRules.{IsCommandByOptionRules}
use Rattle.lrc_options.proofs.MatchedOptions.{matched_option_if_ok_map, matched_option_if_ok_was, matched_option_still_local}
use Rattle.lrc_options.proofs.clap_commands.with_clap_subcommand.Goals as goal

pub returns : goal.returns
returns c = λ a b first second.
    let above = matched_option_if_ok_was (IsCommandByOptionRules a) _ _ c.in_ok-above.was first in
    let below = matched_option_if_ok_was (IsCommandByOptionRules b) _ _ c.in_ok-below.was second in
    matched_option_if_ok_map c.subcommand.result (λ made adds. record {
      shape = adds.shape below.local ∙ ap₂ with_subcommand above.shape (ap (λ (s : App). s.top) below.shape);
      local = matched_option_still_local _ _ _ adds.globals above.local below.local;
    }) c.subcommand.ensures
