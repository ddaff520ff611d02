use Rattle.std.proofs.Common.{◌<◌, length}
use Rattle.explore.specs.TextWalks.{IsTextWalk}
use Rattle.explore.proofs.TextWalks.NextSteps.{next_steps_left}
use Rattle.explore.proofs.text.flag_orders.FlagOrders.walk_through.Given as goal

abbrev pub invariant-loop-processor : goal.invariant-loop-processor
invariant-loop-processor l = record {
  walks : IsTextWalk l.steps l.walk;
  present : l.present < length l.steps;
}

abbrev pub decreases-loop-processor : goal.decreases-loop-processor
decreases-loop-processor l = next_steps_left l.steps l.walk.rows.items
