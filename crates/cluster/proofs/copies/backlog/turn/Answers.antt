use Rattle.std.proofs.Common.{ℕ, ◌-◌, ◌++◌, List, drop, take, ap, ◌∙◌}
use Rattle.interval.specs.SentIntervals.{SentRecord}
use Rattle.cluster.specs.Copies.Backlogs.{backlog_read_from}
use Rattle.cluster.proofs.copies.BacklogRings.{backlog_ring_turned_left, backlog_ring_turned_right}
use Rattle.cluster.proofs.copies.backlog.turn.Goals as goal

pub returns-then-from-to-clause-items : goal.returns-then-from-to-clause-items
returns-then-from-to-clause-items c =
    let xs = c.args.ring.now.items in
    let k = c.args.to - c.args.from in
    let long = ap (λ (n : ℕ). drop (n - k) xs ++ take (n - k) xs) c.args.ring.now.ok.0 in
    ap (λ (ys : List SentRecord). backlog_read_from c.args.to ys) (c.rotate_right.ensures.items ∙ long)
    ∙ backlog_ring_turned_right c.args.from c.args.to xs c.if-from-to.true c.requires.to

pub returns-then-to-from-clause-items : goal.returns-then-to-from-clause-items
returns-then-to-from-clause-items c =
    let xs = c.args.ring.now.items in
    ap (λ (ys : List SentRecord). backlog_read_from c.args.to ys) c.rotate_left.ensures.items
    ∙ backlog_ring_turned_left c.args.from c.args.to xs c.if-to-from.true c.requires.from
