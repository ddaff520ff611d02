use Rattle.std.proofs.Common.{◌≡◌, ◌∙◌, ap, true, false}
use Rattle.clap.specs.Words.{app_of}
use Rattle.clap.specs.Simple.{app_of_fields, on_top}
use Rattle.clap.specs.declared.builder.command.Command.{Command}
use Rattle.clap.specs.declared.builder.command.Command.TheOpen.{Command-F}
use Rattle.clap.specs.declared.builder.command.Command.TheViews.{out-Command}
use Rattle.lrc_options.proofs.clap_commands.clap_bare_command.Goals as goal

pub returns : goal.returns
returns c =
    let about : app_of c.about.result ≡ app_of c.new.result = ap app_of_fields c.about.ensures in
    let after : app_of c.after_help.result ≡ app_of c.about.result = ap app_of_fields c.after_help.ensures in
    let version = ap app_of_fields c.version.ensures
    ∙ ap (on_top (λ s. record s { has_version = true })) (after ∙ about ∙ c.new.ensures.app) in
    let about_local : (out-Command c.about.result).has_globals ≡ false =
    ap (λ (f : Command-F Command). f.has_globals) c.about.ensures ∙ c.new.ensures.local in
    let after_local : (out-Command c.after_help.result).has_globals ≡ false =
    ap (λ (f : Command-F Command). f.has_globals) c.after_help.ensures ∙ about_local in
    let version_local : (out-Command c.version.result).has_globals ≡ false =
    ap (λ (f : Command-F Command). f.has_globals) c.version.ensures ∙ after_local in
    record {
      shape = ap app_of_fields c.subcommand_required.ensures
          ∙ ap (on_top (λ s. record s { subcommand_required = true })) version;
      local = ap (λ (f : Command-F Command). f.has_globals) c.subcommand_required.ensures ∙ version_local;
    }
