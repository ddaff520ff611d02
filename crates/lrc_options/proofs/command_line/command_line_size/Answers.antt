use Rattle.std.proofs.Common.{arith}
use Rattle.lrc_options.proofs.MatchedOptions.{matched_option_size_in, matched_option_size_none, matched_option_size_out}
use Rattle.lrc_options.proofs.command_line.command_line_size.Goals as goal

pub returns-in-Some : goal.returns-in-Some
returns-in-Some c = matched_option_size_in c.args.most _ c.in-Some.size c.in-Some.ensures (omega arith) (omega arith)

pub returns-in_default : goal.returns-in_default
returns-in_default c = matched_option_size_out c.args.most _ c.in-Some.size c.in-Some.ensures (λ least most. omega arith)

pub returns-in_default-2 : goal.returns-in_default-2
returns-in_default-2 c = matched_option_size_out c.args.most _ c.in-Some.size c.in-Some.ensures (λ least most. omega arith)

pub returns-in_default-3 : goal.returns-in_default-3
returns-in_default-3 c = matched_option_size_none c.args.most _ c.in_default.ensures
