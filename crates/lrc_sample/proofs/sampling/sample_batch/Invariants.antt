use Rattle.std.proofs.Common.{◌+◌}
use Rattle.std.specs.Vec.Iter.{into_iter_items}
use Rattle.lrc_script.specs.Plan.{plan_of}
use Rattle.lrc_sample.specs.SampleRuns.{CameBySampleRunSeed, AreSampleRunsInMaking, AreSampleRunsTold}
use Rattle.lrc_sample.proofs.sampling.sample_batch.Given as goal

abbrev pub invariant-loop-run : goal.invariant-loop-run
invariant-loop-run g l = record {
  made : AreSampleRunsInMaking (CameBySampleRunSeed g.T.ScriptRunner.followed g.T.ScriptRunner.drawn l.fn.sampled.lock) l.fn.sampled.detail (plan_of l.fn.sampled.script.now) (l.seed + 1) l.lines.items;
  left : AreSampleRunsTold (CameBySampleRunSeed g.T.ScriptRunner.followed g.T.ScriptRunner.drawn l.fn.sampled.lock) l.fn.sampled.detail (plan_of l.fn.sampled.script.now) l.seed l.to
      (into_iter_items l.run-iterator);
}
