use Rattle.std.proofs.Common.{◌≡◌, ◌≤◌, ◌++◌, vec_len, vec_capacity}
use Rattle.std.specs.Vec.Iter.{into_iter_items}
use Rattle.lrc_run.specs.Threads.{AreThreadResultsOf}
use Rattle.lrc_run.proofs.cluster_run.threads.join_run_threads.Given as goal

abbrev pub invariant-loop-thread : goal.invariant-loop-thread
invariant-loop-thread g l = record {
  came : l.yielded ++ into_iter_items l.thread-iterator ≡ l.fn.threads.items;
  room : vec_len l.fn.threads ≤ vec_capacity l.outcomes;
  are : AreThreadResultsOf l.yielded l.outcomes.items;
}
