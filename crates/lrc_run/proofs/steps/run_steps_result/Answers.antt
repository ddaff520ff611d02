use Rattle.std.proofs.Common.{refl}
use Rattle.lrc_script.specs.Plan.{plan_of}
use Rattle.lrc_run.proofs.Halting.{halted_all, halted_is}
use Rattle.lrc_run.proofs.StepsAfterTurns.{step_after_turn_passed}
use Rattle.lrc_run.proofs.steps.run_steps_result.Goals as goal

pub conclude_run_ending-requires-clause-walked : goal.conclude_run_ending-requires-clause-walked
conclude_run_ending-requires-clause-walked g c κs within =
    step_after_turn_passed c.args.cluster (plan_of c.args.script.now).sections _ c.args.all.now c.requires.way
    (c.requires.whole c.if-passed.true)

pub returns-in-Ok-clause-end : goal.returns-in-Ok-clause-end
returns-in-Ok-clause-end g c = (c.in-Ok.ensures, c.requires.whole c.if-passed.true)

pub finish-journal-requires-after_bounds : goal.finish-journal-requires-after_bounds
finish-journal-requires-after_bounds g c κs within =
    halted_all (plan_of c.args.script.now) c.args.cluster _ c.args.all.now c.requires.lawful c.requires.sizes
    c.requires.way

pub returns-clause-end : goal.returns-clause-end
returns-clause-end g c = (
  halted_is c.requires.lawful c.requires.sizes
      c.requires.way (c.requires.stuck c.if-passed.false) c.finish-journal.ensures,
  refl,
)

pub returns-in-Ok-clause-cluster : goal.returns-in-Ok-clause-cluster
returns-in-Ok-clause-cluster g c = record {
  cluster = c.args.cluster;
  lock_is = c.requires.lock;
  processors = c.args.processors.items;
  walked = step_after_turn_passed c.args.cluster (plan_of c.args.script.now).sections c.args.processors.items c.args.all.now c.requires.way
      (c.requires.whole c.if-passed.true);
  told = c.in-Ok.ensures;
}

pub returns-clause-cluster : goal.returns-clause-cluster
returns-clause-cluster g c = record {
  cluster = c.args.cluster;
  lock_is = c.requires.lock;
  processors = c.args.processors.items;
  progress = c.args.all.now;
  way = c.requires.way;
  told = halted_is c.requires.lawful c.requires.sizes
      c.requires.way (c.requires.stuck c.if-passed.false) c.finish-journal.ensures;
}
