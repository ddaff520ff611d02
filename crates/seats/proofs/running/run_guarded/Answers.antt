use Rattle.std.proofs.Common.{◌≡◌, true, false}
use Rattle.seats.proofs.GuardedRuns.{guarded_run, guarded_run_journal_replays}
use Rattle.seats.proofs.KeptByPrograms.{kept_by_program_flat_run}
use Rattle.seats.proofs.running.run_guarded.Goals as goal

pub unreachable-requires : goal.unreachable-requires
unreachable-requires g c =
    let ran = c.in_ok-ran.ensures.ran in
    let closed = rw c.in_default.is at c.first_open.ensures.none in
    let some = c.in_ok-memory.ensures.replays.1 (guarded_run_journal_replays ran.journal (kept_by_program_flat_run ran closed)) in
    let none : false ≡ true = rw c.in-None.is at some in
    absurd (cc)

pub returns-clause-ran : goal.returns-clause-ran
returns-clause-ran g c =
    guarded_run c.in_ok-ran.ensures.ran (rw c.in_default.is at c.first_open.ensures.none)
    (rw c.in-Some-2.is at c.in_ok-memory.ensures.memory)
