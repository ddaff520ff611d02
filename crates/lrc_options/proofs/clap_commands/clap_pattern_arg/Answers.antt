use Rattle.std.proofs.Common.{ap, codes, [], ◌∷◌, Some}
use Rattle.clap.specs.Words.{Rule}
use Rattle.clap.specs.declared.builder.value_parser.ValueParser.TheVariants as vp
use Rattle.lrc_options.proofs.clap_commands.clap_pattern_arg.Goals as goal

pub returns-clause-rule : goal.returns-clause-rule
returns-clause-rule c =
    rw (
      c.help.ensures,
      c.default_value.ensures,
      c.value_parser.ensures.others,
      c.value_parser.ensures.given.1,
      c.value_parser.ensures.given.2,
    ) (ap (λ (r : Rule). record r {
      defaults = codes "mixed" ∷ [];
      parser = Some (vp.Names c.args.patterns);
    }) c.new.ensures.rule)

pub returns-clause-own : goal.returns-clause-own
returns-clause-own c = rw (c.help.ensures, c.default_value.ensures, c.value_parser.ensures.others) c.new.ensures.optional.1
