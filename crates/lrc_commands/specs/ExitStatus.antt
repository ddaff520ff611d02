-- The exit statuses of the commands that study a script or a trace.
use Rattle.std.specs.Prelude.{ℕ, ◌≡◌, ◌⊎◌, ⊤}
use Rattle.lrc_program.specs.ExitStatus.{IsProgramExitStatusBeforeOutput, IsProgramExitStatusOfScript, program_exit_status_of}
use Rattle.lrc_commands.specs.declared.fault.CommandFault.{CommandFault}
use Rattle.lrc_commands.specs.declared.fault.CommandFault.TheVariants.{Program, Trace, Long, Large, Unshown, Untold}

-- the status of a fault
abbrev pub command_exit_status_of : CommandFault → ℕ
command_exit_status_of (Program fault) = program_exit_status_of fault
command_exit_status_of (Trace line fault) = 2
command_exit_status_of Long = 4
command_exit_status_of Large = 4
command_exit_status_of (Unshown address why) = 5
command_exit_status_of Untold = 4

-- the status of a fault, or that of running out of memory if there was none to say it
abbrev pub IsCommandExitStatusOf : CommandFault → ℕ → Type 0
IsCommandExitStatusOf fault status = (status ≡ command_exit_status_of fault) ⊎ (status ≡ 4)

-- the fault is the script's, or the trace's
abbrev pub IsCommandExitStatusOfInput : CommandFault → Type 0
IsCommandExitStatusOfInput (Program fault) = IsProgramExitStatusOfScript fault
IsCommandExitStatusOfInput (Trace line fault) = ⊤
IsCommandExitStatusOfInput Long = ⊥
IsCommandExitStatusOfInput Large = ⊥
IsCommandExitStatusOfInput (Unshown address why) = ⊥
IsCommandExitStatusOfInput Untold = ⊥

-- the fault came before anything was written
abbrev pub IsCommandExitStatusBeforeAnswer : CommandFault → Type 0
IsCommandExitStatusBeforeAnswer (Program fault) = IsProgramExitStatusBeforeOutput fault
IsCommandExitStatusBeforeAnswer _ = ⊤
