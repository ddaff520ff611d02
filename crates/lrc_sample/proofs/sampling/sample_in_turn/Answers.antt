use Rattle.std.proofs.Common.{◌+◌, sym, subst}
use Rattle.lrc_script.specs.Plan.{plan_of}
use Rattle.lrc_sample.specs.SampleRuns.{CameBySampleRunSeed, AreSampleRunsInMaking}
use Rattle.lrc_sample.proofs.sampling.sample_in_turn.Goals as goal

pub sample_once-requires-clause-made : goal.sample_once-requires-clause-made
sample_once-requires-clause-made g c =
    let came = CameBySampleRunSeed g.T.ScriptRunner.followed g.T.ScriptRunner.drawn c.args.sampled.lock in
    subst (λ n. AreSampleRunsInMaking came c.args.sampled.detail (plan_of c.args.sampled.script.now) (n + 1) c.loop-seed.lines.items) (sym c.from.ensures)
    c.loop-seed.invariant

pub loop-seed-preserved : goal.loop-seed-preserved
loop-seed-preserved g c =
    let came = CameBySampleRunSeed g.T.ScriptRunner.followed g.T.ScriptRunner.drawn c.args.sampled.lock in
    subst (λ n. AreSampleRunsInMaking came c.args.sampled.detail (plan_of c.args.sampled.script.now) (n + 1 + 1) c.sample_once.new.lines.items)
    c.from.ensures c.in_ok-sample_once.ensures
