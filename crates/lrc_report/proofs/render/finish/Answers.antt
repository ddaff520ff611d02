use Rattle.lrc_report.proofs.AppendsThrough.{appends_through_kept, appends_through_front_whole}
use Rattle.lrc_report.proofs.render.finish.Goals as goal

pub returns-in-Ok : goal.returns-in-Ok
returns-in-Ok g c =
    appends_through_kept _ (g.W.Write.contents c.flush.new.out) _ _ c.in_ok-flush.ensures.writes c.flush-2.ensures.bytes

pub returns-in-Err : goal.returns-in-Err
returns-in-Err g c =
    appends_through_front_whole _ _ _ (appends_through_kept _ (g.W.Write.contents c.flush.new.out) _ _ c.in_ok-flush.ensures.writes
    c.flush-2.ensures.bytes)
