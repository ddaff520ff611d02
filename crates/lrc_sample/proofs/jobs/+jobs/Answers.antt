use Rattle.std.proofs.lemmas.Result.{IfOk-at_ok}
use Rattle.lrc_script.specs.Plan.{plan_of}
use Rattle.lrc_sample.specs.SampleRuns.{CameBySampleRunSeed, AreSampleRunsTold}
use Rattle.lrc_sample.proofs.ToldRuns.{told_runs_joined}
use Rattle.lrc_sample.proofs.jobs.+jobs.Goals as goal

pub returns-in-Ok : goal.returns-in-Ok
returns-in-Ok g t c =
    let came = CameBySampleRunSeed g.T.ScriptRunner.followed g.T.ScriptRunner.drawn c.args.sampled.lock in
    let d = c.args.sampled.detail in
    let s = plan_of c.args.sampled.script.now in
    let middle = c.middle_of_jobs-middle.result in
    let told = IfOk-at_ok (λ v. AreSampleRunsTold came d s c.args.from middle v.items) c.in_ok-told.was c.join-told.ensures.first in
    let rest = IfOk-at_ok (λ v. AreSampleRunsTold came d s middle c.args.to v.items) c.in_ok-rest.was c.join-told.ensures.second in
    rw c.in-Ok.ensures.items (told_runs_joined came d s c.args.from middle c.args.to c.in_ok-told.told.items c.in_ok-rest.rest.items told rest)
