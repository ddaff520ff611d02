use Rattle.std.proofs.Common.{◌≡◌, ◌∙◌, ap, ap₂, codes, rules, false}
use Rattle.clap.specs.Words.{app_of, new_rule, rule_of, with_rule}
use Rattle.clap.specs.Simple.{app_of_fields}
use Rattle.clap.specs.declared.builder.command.Command.{Command}
use Rattle.clap.specs.declared.builder.command.Command.TheOpen.{Command-F}
use Rattle.clap.specs.declared.builder.command.Command.TheViews.{out-Command}
use Rattle.lrc_options.proofs.MatchedOptions.{matched_option_if_ok_map, matched_option_still_local}
use Rattle.lrc_options.proofs.clap_commands.clap_file_command.Goals as goal

pub returns : goal.returns
returns c =
    let file_is : rule_of c.help-file.result ≡ new_rule (codes "FILE") = search rules in
    let file_own : c.help-file.result.global ≡ false = search rules in
    let about : app_of c.about.result ≡ app_of c.new-2.result = ap app_of_fields c.about.ensures in
    let start : app_of c.after_help.result ≡ app_of c.about.result = ap app_of_fields c.after_help.ensures in
    let about_local : (out-Command c.about.result).has_globals ≡ false =
    ap (λ (f : Command-F Command). f.has_globals) c.about.ensures ∙ c.new-2.ensures.local in
    let local : (out-Command c.after_help.result).has_globals ≡ false =
    ap (λ (f : Command-F Command). f.has_globals) c.after_help.ensures ∙ about_local in
    matched_option_if_ok_map c.arg.result (λ made adds. record {
      shape = adds.shape file_own ∙ ap₂ with_rule (start ∙ about ∙ c.new-2.ensures.app) file_is;
      local = matched_option_still_local _ _ _ adds.globals local file_own;
    }) c.arg.ensures
