use Rattle.std.proofs.Common.{arith}
use Rattle.interval.proofs.Counts.WalkedNews.{ReadsQueueOfWalkedNews}
use Rattle.interval.proofs.News.Gathered.{gathered_more, gathered_all}
use Rattle.interval.proofs.Queues.Merged.{MergedQueuesHold, merged_queues_sliced}
use Rattle.interval.proofs.closed.Closed.intervals_between.Goals as goal

pub loop-owner-preserved : goal.loop-owner-preserved
loop-owner-preserved c =
    let items = c.deref-queue-items.result.now in
    let hold : MergedQueuesHold items c.self.inside.pushed c.args.self.now =
    merged_queues_sliced c.deref-queue-items.ensures.value (record { seen = c.self.view_is; are = c.self.invariant }) in
    let owned : ReadsQueueOfWalkedNews items c.args.old.now c.args.new.now c.loop-owner.owner c.entry.result
    c.entry-in-loop-owner.result c.queue-item.result = record {
      reads = record { inside = c.loop-owner-test.true; is = c.queue-item.is };
      old_at = c.entry.ensures;
      new_at = c.entry-in-loop-owner.ensures;
    } in
    gathered_more hold.are owned c.loop-owner.invariant c.in_ok-gather.ensures

pub returns : goal.returns
returns c =
    let hold : MergedQueuesHold c.deref-queue-items.result.now c.self.inside.pushed c.args.self.now =
    merged_queues_sliced c.deref-queue-items.ensures.value (record { seen = c.self.view_is; are = c.self.invariant }) in
    gathered_all hold c.args.old.now c.args.new.now c.loop-owner.owner (omega arith) c.loop-owner.invariant
