use Rattle.std.proofs.Common.{◌≡◌, ◌≤◌, ◌++◌, vec_len, vec_capacity}
use Rattle.std.specs.Vec.Iter.{into_iter_items}
use Rattle.lrc_script.specs.Plan.{plan_sections}
use Rattle.lrc_run.specs.Threads.{AreThreadsStarted}
use Rattle.lrc_run.proofs.cluster_run.threads.start_run_threads.Given as goal

abbrev pub invariant-loop-processor : goal.invariant-loop-processor
invariant-loop-processor g l = record {
  came : l.yielded ++ into_iter_items l.processor-iterator ≡ l.fn.processors.items;
  room : vec_len l.fn.processors ≤ vec_capacity l.threads;
  started : AreThreadsStarted l.course.tries l.yielded (plan_sections l.sections) l.threads.items;
}
