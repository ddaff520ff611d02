use Rattle.std.proofs.Common.{ap, codes, [], ◌∷◌}
use Rattle.clap.specs.Words.{Rule}
use Rattle.lrc_options.proofs.clap_commands.clap_most_arg.Goals as goal

pub returns-clause-rule : goal.returns-clause-rule
returns-clause-rule c =
    rw c.default_value.ensures (ap (λ (r : Rule). record r { defaults = codes "1000000" ∷ [] }) c.clap_number_arg.ensures.rule)

pub returns-clause-own : goal.returns-clause-own
returns-clause-own c = rw c.default_value.ensures c.clap_number_arg.ensures.own
