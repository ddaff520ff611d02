use Rattle.std.proofs.Common.{◌∙◌, ap}
use Rattle.std.specs.Prelude.{◌||◌, not}
use Rattle.lrc_options.proofs.command_line.command_line_is_lax.Goals as goal

pub returns : goal.returns
returns c = record {
  asked = c.command_line_asks_for_lax-asked.result;
  strict = c.command_line_is_strict-strict.result;
  asked_is = c.command_line_asks_for_lax-asked.ensures;
  strict_is = c.command_line_is_strict-strict.ensures;
  lax_is = c.is_judged_lax.ensures
      ∙ ap (λ own. c.command_line_asks_for_lax-asked.result || not (c.command_line_is_strict-strict.result || own))
      c.is_lazy_release.ensures;
}
