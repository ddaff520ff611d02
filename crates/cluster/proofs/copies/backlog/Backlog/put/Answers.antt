use Rattle.std.proofs.Common.{ap, arith}
use Rattle.interval.specs.SentIntervals.{SentRecord}
use Rattle.cluster.specs.Copies.Backlogs.{BacklogOfCopy}
use Rattle.cluster.proofs.copies.BacklogRings.{backlog_ring_put_last}
use Rattle.cluster.proofs.copies.backlog.Backlog.put.Goals as goal

pub returns-then-comes_last_in_backlog-clause-put : goal.returns-then-comes_last_in_backlog-clause-put
returns-then-comes_last_in_backlog-clause-put c =
    let place = ap (λ (y : SentRecord). y.place) c.sent.view_is in
    backlog_ring_put_last c.self.inside.ring.items c.args.self.now.records c.push_back_reserved.new.self.items c.self.inside.start
    c.args.sent c.if-self-eq0.true (ap (λ (q : BacklogOfCopy). q.records) c.self.view_is) c.requires.order
    (λ y some at. let le = c.comes_last_in_backlog.ensures c.if-comes_last_in_backlog.true y some at in omega arith) c.push_back_reserved.ensures.items
