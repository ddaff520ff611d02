use Rattle.std.proofs.Common.{◌+◌, subst}
use Rattle.lrc_script.specs.Plan.{plan_of}
use Rattle.lrc_sample.specs.SampleRuns.{CameBySampleRunSeed, IsSampleOfRuns}
use Rattle.conformance.specs.declared.script_runner.LockChoice.{LockChoice}
use Rattle.lrc_sample.specs.declared.detail.SampleDetail.{SampleDetail}
use Rattle.lrc_commands.specs.SampleCommand.{sample_command_lock}
use Rattle.lrc_commands.proofs.StudiedScripts.{studied_script_sample_written}
use Rattle.lrc_commands.proofs.sampling.sample_command_prints.Goals as goal

pub returns-clause-written : goal.returns-clause-written
returns-clause-written g c =
    let P : SampleDetail → LockChoice → Type 0 = λ d lock. IsSampleOfRuns (CameBySampleRunSeed g.T.ScriptRunner.followed g.T.ScriptRunner.drawn lock)
    d (plan_of c.args.script.now) (c.args.options.now.seeds + 1) c.in_ok-sampled.sampled in
    studied_script_sample_written _ _ _ _ _ _ _ c.in_ok-sampled.sampled c.sample_command_writes.result
    (subst (λ d. P d (sample_command_lock c.args.options.now.ticket)) c.sample_command_detail-detail.ensures
    (subst (P c.sample_command_detail-detail.result) c.command_lock_of-lock.ensures c.in_ok-sampled.ensures))
    c.sample_command_writes.ensures.written
