use Rattle.std.proofs.lemmas.Option.{slice_get_within}
use Rattle.explore.proofs.TextWalks.NextSteps.{next_steps_fewer}
use Rattle.explore.proofs.text.flag_orders.FlagOrders.walk_through.Goals as goal

pub loop-processor-smaller : goal.loop-processor-smaller
loop-processor-smaller c =
    let step = c.in-Some.ensures in
    next_steps_fewer c.args.steps.now c.loop-processor.walk.rows.items c.pass.new.self.rows.items c.in-Some.processor step.0 step.1
    c.in_ok-pass.ensures.further

pub loop-processor-preserved : goal.loop-processor-preserved
loop-processor-preserved c =
    let here = c.in-Some.ensures.1 in
    record {
      walks = c.in_ok-pass.ensures.walks;
      present = slice_get_within c.args.steps.now c.in-Some.processor here.calls here.calls_at;
    }
