use Rattle.std.proofs.Common.{◌<◌, ◌≤◌, List, length, ap, sym, ◌∙◌, arith}
use Rattle.std.specs.Option.{option_copied}
use Rattle.interval.specs.IntervalQueues.{IntervalQueue}
use Rattle.interval.proofs.Queues.Merged.{MergedQueuesHold}
use Rattle.interval.proofs.Queues.FirstFound.{first_found_none_without_owner, first_found_none_below, first_found_by_notice, first_found_queue_read, first_found_record}
use Rattle.interval.proofs.closed.Closed.record_of.Goals as goal

pub returns-in_err-queue : goal.returns-in_err-queue
returns-in_err-queue c =
    let hold : MergedQueuesHold c.self.inside.queues.items c.self.inside.pushed c.args.self.now =
    record { seen = c.self.view_is; are = c.self.invariant } in
    let long = ap (λ (qs : List IntervalQueue). length qs) c.deref.ensures.value in
    let look = c.in_err-queue.ensures.lookup.3 in
    let past : length c.self.inside.queues.items ≤ c.args.notice.now.owner = omega arith in
    let none = first_found_none_without_owner c.self.inside.queues.items c.self.inside.pushed c.args.notice.now c.self.invariant past in
    ap option_copied c.from_residual.ensures
    ∙ sym (first_found_record hold c.args.notice.now none)

pub returns-then-notice-first : goal.returns-then-notice-first
returns-then-notice-first c =
    let hold : MergedQueuesHold c.self.inside.queues.items c.self.inside.pushed c.args.self.now =
    record { seen = c.self.view_is; are = c.self.invariant } in
    let look = c.in_ok-queue.ensures.lookup in
    let owned =
    first_found_queue_read c.self.inside.queues.items c.deref.result.now c.args.notice.now.owner c.in_ok-queue.queue.now
    c.deref.ensures.value look.3.0 look.1 in
    let first = c.first.ensures in
    let test = c.if-notice-first.true in
    let below : c.args.notice.now.number < c.in_ok-queue.queue.now.first = omega arith in
    let none =
    first_found_none_below c.self.inside.queues.items c.self.inside.pushed c.args.notice.now c.in_ok-queue.queue.now
    c.self.invariant owned below in
    sym (first_found_record hold c.args.notice.now none)

pub returns-in_err-numbered : goal.returns-in_err-numbered
returns-in_err-numbered c =
    let hold : MergedQueuesHold c.self.inside.queues.items c.self.inside.pushed c.args.self.now =
    record { seen = c.self.view_is; are = c.self.invariant } in
    let look = c.in_ok-queue.ensures.lookup in
    let owned =
    first_found_queue_read c.self.inside.queues.items c.deref.result.now c.args.notice.now.owner c.in_ok-queue.queue.now
    c.deref.ensures.value look.3.0 look.1 in
    let first = c.first.ensures in
    let test = c.if-notice-first.false in
    let from : c.in_ok-queue.queue.now.first ≤ c.args.notice.now.number = omega arith in
    let none =
    first_found_by_notice c.self.inside.queues.items c.self.inside.pushed c.args.notice.now c.in_ok-queue.queue.now
    c.self.invariant owned from
    ∙ sym c.in_err-numbered.ensures in
    ap option_copied c.from_residual-in_err-numbered.ensures
    ∙ sym (first_found_record hold c.args.notice.now none)

pub returns : goal.returns
returns c =
    let hold : MergedQueuesHold c.self.inside.queues.items c.self.inside.pushed c.args.self.now =
    record { seen = c.self.view_is; are = c.self.invariant } in
    let look = c.in_ok-queue.ensures.lookup in
    let owned =
    first_found_queue_read c.self.inside.queues.items c.deref.result.now c.args.notice.now.owner c.in_ok-queue.queue.now
    c.deref.ensures.value look.3.0 look.1 in
    let first = c.first.ensures in
    let test = c.if-notice-first.false in
    let from : c.in_ok-queue.queue.now.first ≤ c.args.notice.now.number = omega arith in
    let found =
    first_found_by_notice c.self.inside.queues.items c.self.inside.pushed c.args.notice.now c.in_ok-queue.queue.now
    c.self.invariant owned from
    ∙ sym c.in_ok-numbered.ensures in
    c.record.ensures
    ∙ sym (first_found_record hold c.args.notice.now found)
