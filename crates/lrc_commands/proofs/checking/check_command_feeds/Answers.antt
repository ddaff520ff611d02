use Rattle.lrc_commands.proofs.JudgedSources.{judged_source_fed_on, judged_source_fed_refused}
use Rattle.lrc_commands.proofs.checking.check_command_feeds.Goals as goal

pub returns-in-Ok : goal.returns-in-Ok
returns-in-Ok c = λ source left after so_far had.
    judged_source_fed_on source left after c.in_ok-reader.reader c.args.piece.now c.feed.new.self c.in-Ok.ensures.fed
    (rw c.in_ok-reader.was at so_far) had

pub returns-in-Err : goal.returns-in-Err
returns-in-Err c = λ source left after so_far had.
    judged_source_fed_refused source left after c.in_ok-reader.reader c.args.piece.now c.in-Err.fault c.in-Err.ensures.only
    (rw c.in_ok-reader.was at so_far) had
