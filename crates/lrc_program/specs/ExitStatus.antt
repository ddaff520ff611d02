-- The exit statuses.
use Rattle.std.specs.Prelude.{ℕ, ◌≡◌, ◌⊎◌, ⊤}
use Rattle.conformance.specs.declared.cause.Cause.{Cause}
use Rattle.conformance.specs.declared.cause.Cause.TheVariants.{Stuck}
use Rattle.lrc_program.specs.declared.fault.ProgramFault.{ProgramFault}
use Rattle.lrc_program.specs.declared.fault.ProgramFault.TheVariants.{Words, Unreadable, Script, Schedule, Run, Output, NoMemory}

-- a run without progress has a status of its own
abbrev pub program_exit_status_of_cause : Cause → ℕ
program_exit_status_of_cause Stuck = 3
program_exit_status_of_cause _ = 4

-- the status of a fault
abbrev pub program_exit_status_of : ProgramFault → ℕ
program_exit_status_of (Words reason) = 5
program_exit_status_of (Unreadable reason) = 5
program_exit_status_of (Script line fault) = 2
program_exit_status_of (Schedule turn misfit) = 5
program_exit_status_of (Run fault) = program_exit_status_of_cause fault.cause
program_exit_status_of _ = 4

-- the status of a fault, or that of running out of memory if there was none to say it
abbrev pub IsProgramExitStatusOf : ProgramFault → ℕ → Type 0
IsProgramExitStatusOf fault status = (status ≡ program_exit_status_of fault) ⊎ (status ≡ program_exit_status_of NoMemory)

-- the fault is the script's
abbrev pub IsProgramExitStatusOfScript : ProgramFault → Type 0
IsProgramExitStatusOfScript (Script line fault) = ⊤
IsProgramExitStatusOfScript _ = ⊥

-- the fault came before anything was written
abbrev pub IsProgramExitStatusBeforeOutput : ProgramFault → Type 0
IsProgramExitStatusBeforeOutput Output = ⊥
IsProgramExitStatusBeforeOutput _ = ⊤
