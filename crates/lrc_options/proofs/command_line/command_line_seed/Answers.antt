use Rattle.std.proofs.Common.{arith}
use Rattle.lrc_options.proofs.MatchedOptions.{matched_option_seed_in, matched_option_seed_out, matched_option_seed_none}
use Rattle.lrc_options.proofs.command_line.command_line_seed.Goals as goal

pub returns-in-Some : goal.returns-in-Some
returns-in-Some c = matched_option_seed_in _ c.in-Some.seed c.in-Some.ensures c.if-seed-le-MOST_SEED.true

pub returns-in_default : goal.returns-in_default
returns-in_default c = matched_option_seed_out _ c.in-Some.seed c.in-Some.ensures (λ most. omega arith)

pub returns-in_default-2 : goal.returns-in_default-2
returns-in_default-2 c = matched_option_seed_none _ c.in_default.ensures
