use Rattle.std.proofs.Common.{subst}
use Rattle.seats.specs.ToldFaults.{NoneFaulted}
use Rattle.seats.proofs.ProgramThreads.{program_threads_ran, program_threads_worked_to_finish}
use Rattle.seats.proofs.running.run.Goals as goal

pub finish-journal-requires-after_bounds : goal.finish-journal-requires-after_bounds
finish-journal-requires-after_bounds g c κs =
    program_threads_worked_to_finish c.in_ok-cluster.ensures.new
    (c.in_ok-workers.ensures.worked (subst NoneFaulted c.deref.ensures.value (rw c.in_default.is at c.told_fault.ensures)))

pub returns-clause-ran : goal.returns-clause-ran
returns-clause-ran g c =
    program_threads_ran c.in_ok-cluster.ensures.sizes c.in_ok-cluster.ensures.new
    (c.in_ok-workers.ensures.worked (subst NoneFaulted c.deref.ensures.value (rw c.in_default.is at c.told_fault.ensures)))
    c.finish-journal.ensures
