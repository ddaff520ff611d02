use Rattle.std.proofs.Common.{ap, ◌∙◌}
use Rattle.interval.specs.SentIntervals.{ClosedInterval}
use Rattle.interval.specs.KeptClosings.{KeptClosings, kept_closings_between}
use Rattle.interval.proofs.News.BetweenUnchanged.{between_unchanged_by_push}
use Rattle.interval.proofs.Queues.Merged.{MergedQueuesHold}
use Rattle.interval.proofs.Queues.LastPushed.{ComesLastPushed, MayBePushedLast, pushed_next, are_pushed, last_pushed_closings}
use Rattle.interval.proofs.closed.Closed.push.Goals as goal

hold : (c : goal.After-self-2-1) → MergedQueuesHold c.self.inside.queues.items c.self.inside.pushed c.args.self.now
hold c = record { seen = c.self.view_is; are = c.self.invariant }

comes : (c : goal.After-self-2-1)
    → ComesLastPushed c.self.inside.queues.items c.self.inside.pushed c.interval.inside.owner c.index_mut.result.now
    (record { place = c.self.inside.pushed; interval = c.args.interval })
comes c =
    let next : MayBePushedLast c.args.self.now c.args.interval = record {
      owner = c.requires.owner;
      number = c.requires.number;
      pages = c.requires.pages;
      fits = c.requires.fits;
    } in
    pushed_next (hold c) next (ap (λ (i : ClosedInterval). i.owner) c.interval.view_is) c.index_mut.ensures.value

pub invariant_of-self-2 : goal.invariant_of-self-2
invariant_of-self-2 c =
    let are =
    are_pushed c.self.inside.queues.items c.self.inside.pushed c.interval.inside.owner c.index_mut.result.now
    (record { place = c.self.inside.pushed; interval = c.args.interval }) c.self.invariant (comes c) in
    rw c.in_ok-push.ensures.ok are

pub returns-clause-ok : goal.returns-clause-ok
returns-clause-ok c =
    rw c.in_ok-push.ensures.ok (last_pushed_closings (hold c) c.args.interval (comes c))

pub returns-clause-same_news : goal.returns-clause-same_news
returns-clause-same_news c = λ old new uncovered.
    ap (λ (v : KeptClosings). kept_closings_between v old new) (returns-clause-ok c)
    ∙ between_unchanged_by_push c.args.self.now c.args.interval old new uncovered
