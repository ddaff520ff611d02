use Rattle.std.proofs.Common.{codes}
use Rattle.clap.specs.Words.{found_of}
use Rattle.lrc_options.proofs.MatchedOptions.{matched_option_flag_read}
use Rattle.lrc_options.proofs.command_line.command_line_wants_eager.Goals as goal

pub returns : goal.returns
returns c =
    matched_option_flag_read (found_of c.args.matches.now) (codes "eager") c.get_flag.result c.get_flag.ensures.none
    c.get_flag.ensures.value c.get_flag.ensures.other
