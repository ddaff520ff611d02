use Rattle.clap.specs.Words.{found_of}
use Rattle.lrc_options.proofs.MatchedOptions.{matched_option_locksets_read, matched_option_no_locksets}
use Rattle.lrc_options.proofs.command_line.command_line_locksets.Goals as goal

pub returns-in-Some : goal.returns-in-Some
returns-in-Some c =
    matched_option_locksets_read (found_of c.args.matches.now) c.in-Some.name.now c.command_line_locksets_named.result c.in-Some.ensures c.command_line_locksets_named.ensures

pub returns-in-None : goal.returns-in-None
returns-in-None c = matched_option_no_locksets (found_of c.args.matches.now) c.in-None.ensures
