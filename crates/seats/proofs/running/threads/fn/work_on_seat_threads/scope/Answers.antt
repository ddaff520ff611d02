use Rattle.seats.proofs.ProgramThreads.{program_threads_all_ended, program_threads_all_worked}
use Rattle.seats.proofs.running.threads.fn.work_on_seat_threads.scope.Goals as goal

pub returns : goal.returns
returns g c = record {
  worked = λ none. program_threads_all_worked c.start_seat_threads-threads.ensures (c.join_seat_threads.ensures.joined none);
  ended =
      program_threads_all_ended c.requires.new c.start_seat_threads-threads.ensures c.join_seat_threads.ensures.long
      c.join_seat_threads.ensures.ended;
}
