use Rattle.std.proofs.Common.{◌<◌}
use Rattle.lrc_script.specs.Plan.{plan_of}
use Rattle.lrc_run.specs.DrawnOrders.{AreDrawnOrderProcessors}
use Rattle.lrc_run.specs.RunSteps.{AreAtRunSteps}
use Rattle.lrc_run.specs.RunTurns.{AreRunTurnsTaken}
use Rattle.lrc_run.proofs.DrawnPlaces.{IsWandering}
use Rattle.lrc_run.proofs.steps.drawn.wander.Given as goal

abbrev pub invariant-loop : goal.invariant-loop
invariant-loop g l = record {
  way : AreAtRunSteps l.cluster (plan_of l.script).sections l.processors.items l.all.items;
  taken : AreRunTurnsTaken (plan_of l.script).sections l.turns.items l.fn.processors.items l.processors.items l.fn.all.items
      l.all.items;
  some : 0 < l.pace.turns;
  below : AreDrawnOrderProcessors l.cluster.sizes.processors l.pace.order.items;
  wanders : IsWandering (plan_of l.script) l.fn.seed l.pace l.turns.items l.fn.processors.items l.processors.items l.fn.all.items
      l.all.items;
}
