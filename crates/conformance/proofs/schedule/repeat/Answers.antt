use Rattle.conformance.proofs.SchedulesRead.{schedule_read_item_pushed}
use Rattle.conformance.proofs.schedule.repeat.Goals as goal

pub loop-preserved : goal.loop-preserved
loop-preserved c = schedule_read_item_pushed _ _ _ c.loop.counter c.args.processor c.in_ok-push.ensures.items c.loop.invariant
