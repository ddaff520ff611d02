use Rattle.std.proofs.Common.{◌≡◌, ◌∙◌, ap, false}
use Rattle.clap.specs.Words.{app_of}
use Rattle.clap.specs.Simple.{app_of_fields}
use Rattle.clap.specs.declared.builder.command.Command.{Command}
use Rattle.clap.specs.declared.builder.command.Command.TheOpen.{Command-F}
use Rattle.clap.specs.declared.builder.command.Command.TheViews.{out-Command}
use Rattle.lrc_options.proofs.clap_commands.clap_new_command.Goals as goal

pub returns : goal.returns
returns c =
    let about : app_of c.about.result ≡ app_of c.new.result = ap app_of_fields c.about.ensures in
    let start : app_of c.after_help.result ≡ app_of c.about.result = ap app_of_fields c.after_help.ensures in
    let about_local : (out-Command c.about.result).has_globals ≡ false =
    ap (λ (f : Command-F Command). f.has_globals) c.about.ensures ∙ c.new.ensures.local in
    record {
      shape = start ∙ about ∙ c.new.ensures.app;
      local = ap (λ (f : Command-F Command). f.has_globals) c.after_help.ensures ∙ about_local;
    }
