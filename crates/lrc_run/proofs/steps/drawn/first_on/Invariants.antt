use Rattle.std.proofs.Common.{◌≡◌, take}
use Rattle.lrc_script.specs.Plan.{plan_of}
use Rattle.lrc_run.specs.RunSteps.{AreAtRunSteps}
use Rattle.lrc_run.specs.RunTurns.{AreRunTurnsSeenAhead, AreRunTurnsTaken}
use Rattle.lrc_run.proofs.steps.drawn.first_on.Given as goal

abbrev pub invariant-loop-place : goal.invariant-loop-place
invariant-loop-place g l = record {
  way : AreAtRunSteps l.cluster (plan_of l.script).sections l.processors.items l.all.items;
  on : AreRunTurnsSeenAhead l.fn.processors.items l.processors.items;
  all_is : l.all.items ≡ l.fn.all.items;
  tried : AreRunTurnsTaken (plan_of l.script).sections (take l.place l.order) l.fn.processors.items l.processors.items l.fn.all.items
      l.all.items;
}
