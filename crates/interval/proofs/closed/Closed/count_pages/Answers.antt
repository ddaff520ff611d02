use Rattle.std.proofs.Common.{◌≡◌, ◌<◌, ◌+◌, ◌==◌, ℕ, List, length, slice_index, count_by, ap, sym, subst, arith, ◌∙◌}
use Rattle.std.specs.List.{flat_map}
use Rattle.std.proofs.lemmas.List.{take_all, get_or-replicate}
use Rattle.interval.specs.declared.interval.KeptInterval.{KeptInterval}
use Rattle.interval.specs.PageCounts.{PageCountsGrew, PageCountsHaveRoom, counted_pages_of}
use Rattle.interval.specs.IntervalQueues.{IntervalQueue}
use Rattle.interval.proofs.Counts.PageCountsGrow.{page_counts_grow_next, page_counts_grow_room_next}
use Rattle.interval.proofs.Counts.WalkedNews.{walked_news_pages, ReadsQueueOfWalkedNews, walked_news_read, walked_news_total, walked_news_room}
use Rattle.interval.proofs.Queues.Merged.{MergedQueuesHold, merged_queues_sliced}
use Rattle.interval.proofs.closed.Closed.count_pages.Goals as goal

pub count_pages-requires-clause-room : goal.count_pages-requires-clause-room
count_pages-requires-clause-room c =
    let old = c.args.old.now in
    let new = c.args.new.now in
    let items = c.deref-queue-items.result.now in
    let hold : MergedQueuesHold items c.self.inside.pushed c.args.self.now =
    merged_queues_sliced c.deref-queue-items.ensures.value (record { seen = c.self.view_is; are = c.self.invariant }) in
    let owned : ReadsQueueOfWalkedNews items old new c.loop-owner.owner c.entry.result c.entry-in-loop-owner.result c.queue-item.result = record {
      reads = record { inside = c.loop-owner-test.true; is = c.queue-item.is };
      old_at = c.entry.ensures;
      new_at = c.entry-in-loop-owner.ensures;
    } in
    let zeros : (i : ℕ) → i < length c.fill.new.self → slice_index c.fill.new.self i ≡ 0 = λ i inside.
    let long = c.fill.ensures.len in
    ap (λ (ns : List ℕ). slice_index ns i) (c.fill.ensures.after (λ y e. e))
    ∙ get_or-replicate (length c.args.counts.now) i 0 0 (omega arith) in
    let all = walked_news_room hold c.args.base old new c.fill.new.self zeros in
    let room = page_counts_grow_room_next (walked_news_pages old new) owned.reads all c.loop-owner.invariant in
    let Room : List KeptInterval → Type 0 = λ ks. PageCountsHaveRoom c.args.base (counted_pages_of ks) c.loop-owner.counts in
    subst Room (walked_news_read hold.are owned) room

pub loop-owner-preserved : goal.loop-owner-preserved
loop-owner-preserved c =
    let old = c.args.old.now in
    let new = c.args.new.now in
    let items = c.deref-queue-items.result.now in
    let hold : MergedQueuesHold items c.self.inside.pushed c.args.self.now =
    merged_queues_sliced c.deref-queue-items.ensures.value (record { seen = c.self.view_is; are = c.self.invariant }) in
    let owned : ReadsQueueOfWalkedNews items old new c.loop-owner.owner c.entry.result c.entry-in-loop-owner.result c.queue-item.result = record {
      reads = record { inside = c.loop-owner-test.true; is = c.queue-item.is };
      old_at = c.entry.ensures;
      new_at = c.entry-in-loop-owner.ensures;
    } in
    let Counted : List KeptInterval → Type 0 =
    λ ks. PageCountsGrew c.args.base (counted_pages_of ks) c.loop-owner.counts c.count_pages.new.counts in
    page_counts_grow_next (walked_news_pages old new) owned.reads c.loop-owner.invariant
    (subst Counted (sym (walked_news_read hold.are owned)) c.count_pages.ensures)

pub returns-clause-each : goal.returns-clause-each
returns-clause-each c i inside =
    let old = c.args.old.now in
    let new = c.args.new.now in
    let items = c.deref-queue-items.result.now in
    let n = c.args.base + i in
    let long = c.loop-owner.invariant.long in
    let filled = c.fill.ensures.len in
    let none : slice_index c.fill.new.self i ≡ 0 =
    ap (λ (ns : List ℕ). slice_index ns i) (c.fill.ensures.after (λ y e. e))
    ∙ get_or-replicate (length c.args.counts.now) i 0 0 (omega arith) in
    let now = c.loop-owner.invariant.each i (omega arith) in
    let all =
    ap (λ (qs : List IntervalQueue). count_by (λ (p : ℕ). p == n) (flat_map (walked_news_pages old new) qs))
    (take_all c.loop-owner.owner items (omega arith)) in
    let hold : MergedQueuesHold items c.self.inside.pushed c.args.self.now =
    merged_queues_sliced c.deref-queue-items.ensures.value (record { seen = c.self.view_is; are = c.self.invariant }) in
    let total = walked_news_total hold old new n in
    omega arith
