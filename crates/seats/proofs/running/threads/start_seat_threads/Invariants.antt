-- The processors so far have their threads.
use Rattle.std.proofs.Common.{◌≡◌, ◌≤◌, ◌++◌, vec_len, vec_capacity}
use Rattle.std.specs.Vec.Iter.{into_iter_items}
use Rattle.seats.specs.ProgramRuns.{AreSeatedForProgramRun}
use Rattle.seats.proofs.running.threads.start_seat_threads.Given as goal

abbrev pub invariant-loop-processor : goal.invariant-loop-processor
invariant-loop-processor g l = record {
  came : l.yielded ++ into_iter_items l.processor-iterator ≡ l.fn.processors.items;
  room : vec_len l.fn.processors ≤ vec_capacity l.threads;
  seated : AreSeatedForProgramRun l.layout l.yielded l.threads.items;
}
