-- What came of the threads so far.
use Rattle.std.proofs.Common.{◌≡◌, ◌≤◌, ◌++◌, length, vec_len, vec_capacity}
use Rattle.std.specs.Vec.Iter.{into_iter_items}
use Rattle.seats.specs.ProgramRuns.{HaveAllJoinedProgramRun, HaveEndedInProgramRun}
use Rattle.seats.specs.ToldFaults.{NoneFaulted}
use Rattle.seats.proofs.running.threads.join_seat_threads.Given as goal

abbrev pub invariant-loop-thread : goal.invariant-loop-thread
invariant-loop-thread g l = record {
  came : l.yielded ++ into_iter_items l.thread-iterator ≡ l.fn.threads.items;
  processors_fit : vec_len l.fn.threads ≤ vec_capacity l.workers.processors;
  answers_fit : vec_len l.fn.threads ≤ vec_capacity l.workers.answers;
  processors_few : length l.workers.processors.items ≤ length l.yielded;
  answers_few : length l.workers.answers.items ≤ length l.yielded;
  ends_fit : vec_len l.fn.threads ≤ vec_capacity l.workers.ends;
  ends_long : length l.workers.ends.items ≡ length l.yielded;
  ended : HaveEndedInProgramRun g.P.Program.did l.yielded l.workers.ends.items;
  joined : NoneFaulted l.workers.ends.items
      → HaveAllJoinedProgramRun g.P.Program.did l.yielded l.workers.processors.items l.workers.answers.items;
}
