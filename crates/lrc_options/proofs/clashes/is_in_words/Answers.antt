use Rattle.std.proofs.Common.{◌∙◌, ap}
use Rattle.clap.specs.Words.{found_of}
use Rattle.lrc_options.specs.Clashes.{is_from_words}
use Rattle.lrc_options.proofs.MatchedOptions.{matched_option_source_read}
use Rattle.lrc_options.proofs.clashes.is_in_words.Goals as goal

pub returns-in-Some : goal.returns-in-Some
returns-in-Some c = c.comes_from_words.ensures
    ∙ ap is_from_words (c.in-Some.ensures ∙ matched_option_source_read (found_of c.args.matches.now) c.args.id.now)

pub returns-in-None : goal.returns-in-None
returns-in-None c = ap is_from_words (c.in-None.ensures ∙ matched_option_source_read (found_of c.args.matches.now) c.args.id.now)
