use Rattle.std.proofs.Common.{◌+◌, ◌∷◌, subst, arith}
use Rattle.std.specs.Vec.Iter.{into_iter_items}
use Rattle.lrc_script.specs.Plan.{plan_of}
use Rattle.lrc_sample.specs.SampleRuns.{AreSampleRunsTold, CameBySampleRunSeed}
use Rattle.lrc_sample.proofs.TalliedRuns.{tallied_runs_few, tallied_runs_noted}
use Rattle.lrc_sample.proofs.ToldRuns.{told_runs_within}
use Rattle.lrc_sample.proofs.sampling.sample_batch.Goals as goal

pub note_in_sample_tally-requires : goal.note_in_sample_tally-requires
note_in_sample_tally-requires g c =
    let came = CameBySampleRunSeed g.T.ScriptRunner.followed g.T.ScriptRunner.drawn c.args.sampled.lock in
    let s = plan_of c.args.sampled.script.now in
    let seed = c.loop-run.seed in
    let rest = into_iter_items c.next.new.self in
    let left : AreSampleRunsTold came c.args.sampled.detail s seed c.args.to (c.in-Some.run' ∷ rest) =
    subst (AreSampleRunsTold came c.args.sampled.detail s seed c.args.to) c.in-Some.ensures.steps.0 c.loop-run.invariant.left in
    let within = told_runs_within came c.args.sampled.detail s (seed + 1) c.args.to rest left.1 in
    tallied_runs_few came c.args.sampled.detail s (seed + 1) c.loop-run.lines.items (omega (arith, within, c.requires.order.1)) c.loop-run.invariant.made

pub overflow_add-seed : goal.overflow_add-seed
overflow_add-seed g c =
    let came = CameBySampleRunSeed g.T.ScriptRunner.followed g.T.ScriptRunner.drawn c.args.sampled.lock in
    let s = plan_of c.args.sampled.script.now in
    let seed = c.loop-run.seed in
    let rest = into_iter_items c.next.new.self in
    let left : AreSampleRunsTold came c.args.sampled.detail s seed c.args.to (c.in-Some.run' ∷ rest) =
    subst (AreSampleRunsTold came c.args.sampled.detail s seed c.args.to) c.in-Some.ensures.steps.0 c.loop-run.invariant.left in
    let within = told_runs_within came c.args.sampled.detail s (seed + 1) c.args.to rest left.1 in
    omega (arith, within, c.requires.order.1)

pub loop-run-preserved : goal.loop-run-preserved
loop-run-preserved g c =
    let came = CameBySampleRunSeed g.T.ScriptRunner.followed g.T.ScriptRunner.drawn c.args.sampled.lock in
    let s = plan_of c.args.sampled.script.now in
    let seed = c.loop-run.seed in
    let rest = into_iter_items c.next.new.self in
    let left : AreSampleRunsTold came c.args.sampled.detail s seed c.args.to (c.in-Some.run' ∷ rest) =
    subst (AreSampleRunsTold came c.args.sampled.detail s seed c.args.to) c.in-Some.ensures.steps.0 c.loop-run.invariant.left in
    record {
      made = tallied_runs_noted c.loop-run.invariant.made left.0 c.in-Ok.ensures.shown c.in-Ok.ensures.tally;
      left = left.1;
    }
