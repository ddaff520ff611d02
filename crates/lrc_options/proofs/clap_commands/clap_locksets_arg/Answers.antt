use Rattle.std.proofs.Common.{ap, codes, Some}
use Rattle.clap.specs.Words.{Rule}
use Rattle.clap.specs.declared.builder.value_parser.ValueParser.TheVariants as vp
use Rattle.lrc_options.proofs.clap_commands.clap_locksets_arg.Goals as goal

pub returns-clause-rule : goal.returns-clause-rule
returns-clause-rule c =
    rw (
      c.help.ensures,
      c.value_parser.ensures.others,
      c.value_parser.ensures.given.1,
      c.value_parser.ensures.given.2,
      c.value_name.ensures,
      c.long.ensures,
    ) (ap (λ (r : Rule). record r {
      long = Some (codes "locksets");
      value_names = 1;
      parser = Some (vp.Names c.args.words);
    }) c.new.ensures.rule)

pub returns-clause-own : goal.returns-clause-own
returns-clause-own c =
    rw (c.help.ensures, c.value_parser.ensures.others, c.value_name.ensures, c.long.ensures)
    c.new.ensures.optional.1
