use Rattle.lrc_script.specs.Plan.{plan_of}
use Rattle.lrc_sample.specs.SampleRuns.{CameBySampleRunSeed, AreSampleRunsTold}
use Rattle.lrc_sample.proofs.jobs.job_of_sampled_runs.Given as goal

abbrev pub invariant-loop-seed : goal.invariant-loop-seed
invariant-loop-seed g l =
    AreSampleRunsTold (CameBySampleRunSeed g.T.ScriptRunner.followed g.T.ScriptRunner.drawn l.sampled.lock) l.sampled.detail (plan_of l.sampled.script.now) l.from l.seed l.told.items
