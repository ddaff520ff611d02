use Rattle.std.specs.Str.Parse.{ParsesUnsigned, ExplainsUnsignedError, HasUnsignedDigitsIfOk}
use Rattle.clap.specs.Words.{found_of}
use Rattle.lrc_options.proofs.MatchedOptions.{matched_option_number_read}
use Rattle.lrc_options.proofs.command_line.command_line_number.Goals as goal

pub returns : goal.returns
returns c =
    matched_option_number_read (λ bs r. ParsesUnsigned 64 10 bs r × ExplainsUnsignedError 10 bs r × HasUnsignedDigitsIfOk bs r)
    (found_of c.args.matches.now) c.args.id.now c.get_one.result c.get_one.ensures.none c.get_one.ensures.value
    (λ u x g. g.0)
