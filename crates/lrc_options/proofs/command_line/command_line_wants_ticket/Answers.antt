use Rattle.std.proofs.Common.{codes}
use Rattle.clap.specs.Words.{found_of}
use Rattle.lrc_options.proofs.MatchedOptions.{matched_option_word_read, matched_option_no_word}
use Rattle.lrc_options.proofs.command_line.command_line_wants_ticket.Goals as goal

pub returns-in-Some : goal.returns-in-Some
returns-in-Some c = matched_option_word_read (found_of c.args.matches.now) (codes "lock") (codes "ticket") c.in-Some.lock.now
    c.eq.result c.in-Some.ensures c.eq.ensures

pub returns-in-None : goal.returns-in-None
returns-in-None c = matched_option_no_word (found_of c.args.matches.now) (codes "lock") (codes "ticket") c.in-None.ensures
