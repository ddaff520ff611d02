use Rattle.std.proofs.Common.{codes}
use Rattle.clap.specs.Words.{found_of}
use Rattle.lrc_options.proofs.MatchedOptions.{matched_option_word_read, matched_option_no_word}
use Rattle.lrc_options.proofs.clashes.is_lazy_release.Goals as goal

pub returns-in-Some : goal.returns-in-Some
returns-in-Some c = matched_option_word_read (found_of c.args.matches.now) (codes "model") (codes "lazy-release") c.in-Some.model.now
    c.eq.result c.in-Some.ensures c.eq.ensures

pub returns-in-None : goal.returns-in-None
returns-in-None c = matched_option_no_word (found_of c.args.matches.now) (codes "model") (codes "lazy-release") c.in-None.ensures
