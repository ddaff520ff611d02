use Rattle.lrc_script.specs.Plan.{plan_sections}
use Rattle.lrc_run.proofs.JoinedThreads.{joined_threads_outcomes}
use Rattle.lrc_run.proofs.cluster_run.threads.fn.run_all_threads.scope.Goals as goal

pub returns : goal.returns
returns g c =
    joined_threads_outcomes c.captures.course.now.tries c.captures.cluster.now c.captures.processors.items (plan_sections c.captures.sections.now)
    c.start_run_threads-threads.result.items c.join_run_threads.result.items c.requires.new c.start_run_threads-threads.ensures
    c.join_run_threads.ensures
