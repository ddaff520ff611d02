use Rattle.lrc_script.specs.Plan.{plan_of}
use Rattle.lrc_sample.specs.SampleRuns.{CameBySampleRunSeed}
use Rattle.lrc_sample.proofs.ToldRuns.{told_runs_push}
use Rattle.lrc_sample.proofs.jobs.add_sampled_run.Goals as goal

pub returns-in-Ok : goal.returns-in-Ok
returns-in-Ok g c = λ from are.
    rw c.in-Ok.ensures.items (told_runs_push (CameBySampleRunSeed g.T.ScriptRunner.followed g.T.ScriptRunner.drawn c.args.sampled.lock) c.args.sampled.detail
    (plan_of c.args.sampled.script.now) from c.args.seed c.args.told.now.items c.in_ok-run.run' are c.in_ok-run.ensures)
