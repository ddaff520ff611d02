use Rattle.std.proofs.Common.{◌+◌}
use Rattle.lrc_script.specs.Plan.{plan_of}
use Rattle.lrc_sample.specs.SampleRuns.{CameBySampleRunSeed, AreSampleRunsInMaking}
use Rattle.lrc_sample.proofs.sampling.sample_in_turn.Given as goal

abbrev pub invariant-loop-seed : goal.invariant-loop-seed
invariant-loop-seed g l =
    AreSampleRunsInMaking (CameBySampleRunSeed g.T.ScriptRunner.followed g.T.ScriptRunner.drawn l.sampled.lock) l.sampled.detail (plan_of l.sampled.script.now) (l.seed + 1) l.lines.items
