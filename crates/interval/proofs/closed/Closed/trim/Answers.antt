use Rattle.std.proofs.Common.{◌≡◌, Some, slice_get, ap, ◌∙◌}
use Rattle.interval.specs.KeptClosings.{KeptClosings, kept_closings_between}
use Rattle.interval.proofs.News.BetweenUnchanged.{between_unchanged_by_trim}
use Rattle.interval.proofs.Queues.TrimmedQueues.{are_trimmed_queues, trimmed_queue_closings}
use Rattle.interval.proofs.Queues.Merged.{MergedQueuesHold}
use Rattle.interval.proofs.News.Gathered.{gathered_owned_queue}
use Rattle.interval.proofs.closed.Closed.trim.Goals as goal

hold : (c : goal.After-self-1) → MergedQueuesHold c.self.inside.queues.items c.self.inside.pushed c.args.self.now
hold c = record { seen = c.self.view_is; are = c.self.invariant }

owned : (c : goal.After-self-1) → slice_get c.self.inside.queues.items c.args.owner ≡ Some c.index_mut.result.now
owned c = gathered_owned_queue c.args.owner (hold c) c.requires c.index_mut.ensures.value

pub invariant_of-self : goal.invariant_of-self
invariant_of-self c =
    rw c.trim.ensures (are_trimmed_queues c.self.inside.queues.items c.self.inside.pushed c.args.owner c.index_mut.result.now
    c.args.to c.self.invariant (owned c))

pub returns-clause-value : goal.returns-clause-value
returns-clause-value c =
    rw c.trim.ensures (trimmed_queue_closings (hold c) c.args.owner c.args.to (owned c))

pub returns-clause-same_news : goal.returns-clause-same_news
returns-clause-same_news c = λ old new performed.
    ap (λ (v : KeptClosings). kept_closings_between v old new) (returns-clause-value c)
    ∙ between_unchanged_by_trim c.args.self.now c.args.owner c.args.to old new performed
