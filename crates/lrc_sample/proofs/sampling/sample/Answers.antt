use Rattle.std.proofs.Common.{◌+◌, sym, subst, arith}
use Rattle.lrc_script.specs.Plan.{plan_of}
use Rattle.lrc_sample.specs.SampleRuns.{CameBySampleRunSeed, AreSampleRunsInMaking}
use Rattle.lrc_sample.proofs.TalliedRuns.{tallied_runs_few, tallied_runs_none, tallied_runs_are_sample}
use Rattle.lrc_sample.proofs.sampling.sample.Goals as goal

pub sample_once-requires-clause-made : goal.sample_once-requires-clause-made
sample_once-requires-clause-made g c =
    let came = CameBySampleRunSeed g.T.ScriptRunner.followed g.T.ScriptRunner.drawn c.args.sampled.lock in
    subst (AreSampleRunsInMaking came c.args.sampled.detail (plan_of c.args.sampled.script.now) 0) (sym c.new-lines.ensures.items)
    (tallied_runs_none came c.args.sampled.detail (plan_of c.args.sampled.script.now))

pub sort_sample_tally-requires : goal.sort_sample_tally-requires
sort_sample_tally-requires g c =
    let few = tallied_runs_few (CameBySampleRunSeed g.T.ScriptRunner.followed g.T.ScriptRunner.drawn c.args.sampled.lock) c.args.sampled.detail (plan_of c.args.sampled.script.now)
    (c.args.seeds + 1) c.sample_seeds.new.lines.items (omega (arith, c.ranges.seeds.fits)) c.in_ok-sample_seeds.ensures in
    omega (arith, few)

pub returns-in-Ok : goal.returns-in-Ok
returns-in-Ok g c =
    tallied_runs_are_sample (CameBySampleRunSeed g.T.ScriptRunner.followed g.T.ScriptRunner.drawn c.args.sampled.lock) c.args.sampled.detail (plan_of c.args.sampled.script.now)
    (c.args.seeds + 1) c.sample_seeds.new.lines.items record { lines = c.sort_sample_tally.new.lines } c.in_ok-sample_seeds.ensures
    c.sort_sample_tally.ensures.tally c.sort_sample_tally.ensures.shown c.in-Ok.ensures.order
