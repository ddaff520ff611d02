use Rattle.std.proofs.Common.{length, ap, arith}
use Rattle.cluster.specs.Copies.Backlogs.{BacklogOfCopy}
use Rattle.cluster.proofs.copies.BacklogRings.{backlog_ring_read_length, backlog_ring_none_later}
use Rattle.cluster.proofs.copies.backlog.Backlog.place_of.Goals as goal

pub on_from-requires-clause-before : goal.on_from-requires-clause-before
on_from-requires-clause-before c =
    let b = c.self.inside in
    let long = backlog_ring_read_length b.start b.ring.items in
    let same = ap (λ (q : BacklogOfCopy). length q.records) c.self.view_is in
    let ok = b.ring.ok.0 in
    let is = c.len.ensures in
    let low = c.back_from-start.ensures.within in
    backlog_ring_none_later c.args.self.now.records c.args.place c.back_from-start.result c.requires (omega arith)
    c.back_from-start.ensures.before
