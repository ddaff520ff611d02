use Rattle.std.proofs.Common.{rules}
use Rattle.lrc_script.specs.Plan.{plan_of, plan_sections}
use Rattle.lrc_run.specs.Threads.{AreThreadResults}
use Rattle.lrc_run.proofs.JoinedThreads.{cluster_run_reported, joined_threads_all_walked, joined_threads_stuck}
use Rattle.lrc_run.proofs.cluster_run.run_with.Goals as goal

pub conclude_cluster_run-requires-clause-walked : goal.conclude_cluster_run-requires-clause-walked
conclude_cluster_run-requires-clause-walked g c κs within =
    let sections = plan_sections c.args.script.now.sections.items in
    let are : AreThreadResults c.args.tries c.in_ok-cluster.cluster sections c.in_ok-cluster.outcomes.items = search rules in
    joined_threads_all_walked c.in_ok-cluster.cluster sections c.in_ok-cluster.outcomes.items c.in-Ok.processors.items
    are c.in-Ok.ensures.ok

pub returns-in-Ok-clause-ran : goal.returns-in-Ok-clause-ran
returns-in-Ok-clause-ran g c =
    cluster_run_reported g.T.Turn.width (plan_of c.args.script.now) c.args.tries c.conclude_cluster_run.result c.conclude_cluster_run.ensures.cluster
    c.conclude_cluster_run.ensures.err

pub returns-in-Err-clause-ran : goal.returns-in-Err-clause-ran
returns-in-Err-clause-ran g c = λ stuck.
    let sections = plan_sections c.args.script.now.sections.items in
    let are : AreThreadResults c.args.tries c.in_ok-cluster.cluster sections c.in_ok-cluster.outcomes.items = search rules in
    joined_threads_stuck g.T.Turn.width c.in-Err.fault c.in_ok-cluster.ensures.lock c.requires.lawful c.in_ok-cluster.ensures.sizes are c.in-Err.ensures.err stuck
