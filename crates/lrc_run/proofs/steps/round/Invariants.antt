use Rattle.std.proofs.Common.{◌≡◌, take, vec_len}
use Rattle.lrc_script.specs.Plan.{plan_of}
use Rattle.lrc_run.specs.RunSteps.{AreAtRunSteps}
use Rattle.lrc_run.specs.RunTurns.{AreRunTurns}
use Rattle.lrc_run.proofs.steps.round.Given as goal

abbrev pub invariant-loop-p : goal.invariant-loop-p
invariant-loop-p g l = record {
  way : AreAtRunSteps l.cluster (plan_of l.script).sections l.processors.items l.all.items;
  turned : AreRunTurns (plan_of l.script).sections (take l.p-index l.list) l.fn.processors.items l.processors.items
      l.fn.all.items l.all.items;
  long : vec_len l.processors ≡ vec_len l.fn.processors;
}
