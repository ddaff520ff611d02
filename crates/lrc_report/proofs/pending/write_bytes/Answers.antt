use Rattle.lrc_report.proofs.AppendsThrough.{appends_through_more}
use Rattle.lrc_report.proofs.pending.write_bytes.Goals as goal

pub loop-rest-preserved : goal.loop-rest-preserved
loop-rest-preserved g c = appends_through_more _ (g.W.Write.contents c.loop-rest.out) _ _ c.loop-rest.rest.now
    c.in-Ok.count c.loop-rest.invariant c.in-Ok.ensures.bytes
