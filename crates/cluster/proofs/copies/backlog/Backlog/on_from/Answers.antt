use Rattle.std.proofs.Common.{◌≡◌, ap, arith}
use Rattle.interval.specs.SentIntervals.{SentRecord}
use Rattle.std.proofs.lemmas.Option.{slice_get_within}
use Rattle.cluster.proofs.copies.BacklogRings.{backlog_ring_all_later}
use Rattle.cluster.proofs.copies.backlog.Backlog.on_from.Goals as goal

pub returns-else-at-place : goal.returns-else-at-place
returns-else-at-place c =
    let x : SentRecord = c.at.result.now in
    let same : c.behind-self.inside.place ≡ x.place = ap (λ (y : SentRecord). y.place) c.behind-self.view_is in
    record {
      within = c.loop-at.invariant.within;
      before = c.loop-at.invariant.before;
      behind = backlog_ring_all_later c.args.self.now.records c.args.place c.loop-at.at x c.requires.order c.at.ensures (omega arith);
    }

pub returns-after-loop-at : goal.returns-after-loop-at
returns-after-loop-at c =
    record {
      within = c.loop-at.invariant.within;
      before = c.loop-at.invariant.before;
      behind = λ i y le at. (let lt = slice_get_within c.args.self.now.records i y at in absurd (omega arith));
    }
