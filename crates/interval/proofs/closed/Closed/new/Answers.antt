use Rattle.std.proofs.Common.{◌≡◌, ap, ◌∙◌, arith, replicate, refl, ℕ}
use Rattle.interval.specs.IntervalQueues.{interval_queue_by_place}
use Rattle.interval.proofs.Queues.Empty.{one_more_empty, are_empty_queues}
use Rattle.interval.proofs.closed.Closed.new.Goals as goal

pub loop-init : goal.loop-init
loop-init c = rw c.in_ok-queues.ensures.items (record { none = refl; first = refl; next = refl })

pub loop-preserved : goal.loop-preserved
loop-preserved c =
    rw c.in_ok-push.ensures.items (one_more_empty c.loop.counter c.loop.queues.items c.new.result c.new.ensures.first
    c.new.ensures.kept c.loop.invariant)

all : (c : goal.After-loop) → c.loop.counter ≡ c.args.owners
all c = omega arith

pub invariant_of-result : goal.invariant_of-result
invariant_of-result c = are_empty_queues c.loop.queues.items c.loop.invariant.none

pub returns-clause-kept : goal.returns-clause-kept
returns-clause-kept c = ap interval_queue_by_place c.loop.invariant.none

pub returns-clause-first : goal.returns-clause-first
returns-clause-first c = c.loop.invariant.first ∙ ap (λ (n : ℕ). replicate n 0) (all c)

pub returns-clause-next : goal.returns-clause-next
returns-clause-next c = c.loop.invariant.next ∙ ap (λ (n : ℕ). replicate n 0) (all c)
