use Rattle.std.proofs.Common.{◌+◌, ◌-◌, ◌≤◌}
use Rattle.lrc_script.specs.Plan.{plan_of}
use Rattle.lrc_sample.specs.SampleRuns.{CameBySampleRunSeed, AreSampleRunsInMaking}
use Rattle.lrc_sample.proofs.sampling.sample_by_jobs.Given as goal

abbrev pub invariant-loop-from : goal.invariant-loop-from
invariant-loop-from g l = record {
  within : l.from ≤ l.seeds;
  made : AreSampleRunsInMaking (CameBySampleRunSeed g.T.ScriptRunner.followed g.T.ScriptRunner.drawn l.sampled.lock) l.sampled.detail (plan_of l.sampled.script.now) (l.from + 1) l.lines.items;
}

abbrev pub decreases-loop-from : goal.decreases-loop-from
decreases-loop-from g l = l.seeds - l.from
