-- What a status tells of the fault.
use Rattle.std.proofs.Common.{◌≡◌, ◌≢◌, ◌≤◌, ◌∙◌, ℕ, inl, inr, subst, sym, arith}
use Rattle.conformance.specs.declared.cause.Cause.{Cause}
use Rattle.conformance.specs.declared.cause.Cause.TheVariants.{Stuck, Gate, Thread, Refused}
use Rattle.lrc_program.specs.declared.fault.ProgramFault.{ProgramFault}
use Rattle.lrc_program.specs.declared.fault.ProgramFault.TheVariants as program
use Rattle.lrc_program.specs.ExitStatus.{program_exit_status_of_cause, program_exit_status_of}
use Rattle.lrc_program.proofs.StatusMeanings.{program_status_meaning_some, program_status_means_scripts, before}
use Rattle.lrc_commands.specs.declared.fault.CommandFault.{CommandFault}
use Rattle.lrc_commands.specs.declared.fault.CommandFault.TheVariants.{Program, Trace, Long, Large, Unshown, Untold}
use Rattle.lrc_commands.specs.ExitStatus.{command_exit_status_of, IsCommandExitStatusOf, IsCommandExitStatusOfInput, IsCommandExitStatusBeforeAnswer}

-- a fault has some status
command_status_meaning_some : (fault : CommandFault) → command_exit_status_of fault ≢ 0
command_status_meaning_some (Program fault) is = program_status_meaning_some fault is
command_status_meaning_some (Trace line fault) is = absurd (omega (arith, is))
command_status_meaning_some Long is = absurd (omega (arith, is))
command_status_meaning_some Large is = absurd (omega (arith, is))
command_status_meaning_some (Unshown address why) is = absurd (omega (arith, is))
command_status_meaning_some Untold is = absurd (omega (arith, is))

-- status 2 is the input's
command_status_means_inputs : (fault : CommandFault) → command_exit_status_of fault ≡ 2 → IsCommandExitStatusOfInput fault
command_status_means_inputs (Program fault) is = program_status_means_scripts fault is
command_status_means_inputs (Trace line fault) is = tt
command_status_means_inputs Long is = absurd (omega (arith, is))
command_status_means_inputs Large is = absurd (omega (arith, is))
command_status_means_inputs (Unshown address why) is = absurd (omega (arith, is))
command_status_means_inputs Untold is = absurd (omega (arith, is))

-- a fault of the output has status 4
pub command_status_means_before : (fault : CommandFault) → command_exit_status_of fault ≢ 4 → IsCommandExitStatusBeforeAnswer fault
command_status_means_before (Program fault) isnt = before fault isnt
command_status_means_before (Trace line fault) isnt = tt
command_status_means_before Long isnt = tt
command_status_means_before Large isnt = tt
command_status_means_before (Unshown address why) isnt = tt
command_status_means_before Untold isnt = tt

-- no fault has a status above 5: 6 is that of a trace that isn't faithful, 7 that of a search that was given up
command_status_meaning_of_cause_small : (cause : Cause) → program_exit_status_of_cause cause ≤ 5
command_status_meaning_of_cause_small Stuck = omega arith
command_status_meaning_of_cause_small Gate = omega arith
command_status_meaning_of_cause_small Thread = omega arith
command_status_meaning_of_cause_small (Refused refused) = omega arith

command_status_meaning_of_program_small : (fault : ProgramFault) → program_exit_status_of fault ≤ 5
command_status_meaning_of_program_small (program.Words reason) = omega arith
command_status_meaning_of_program_small (program.Unreadable reason) = omega arith
command_status_meaning_of_program_small (program.Script line fault) = omega arith
command_status_meaning_of_program_small (program.Schedule turn misfit) = omega arith
command_status_meaning_of_program_small (program.Run fault) = command_status_meaning_of_cause_small fault.cause
command_status_meaning_of_program_small program.Output = omega arith
command_status_meaning_of_program_small program.NoMemory = omega arith

command_status_meaning_small : (fault : CommandFault) → command_exit_status_of fault ≤ 5
command_status_meaning_small (Program fault) = command_status_meaning_of_program_small fault
command_status_meaning_small (Trace line fault) = omega arith
command_status_meaning_small Long = omega arith
command_status_meaning_small Large = omega arith
command_status_meaning_small (Unshown address why) = omega arith
command_status_meaning_small Untold = omega arith

-- what is told isn't 0
pub told_command_status_meaning_some : (fault : CommandFault) (status : ℕ) → IsCommandExitStatusOf fault status → status ≢ 0
told_command_status_meaning_some fault status (inl its) is = command_status_meaning_some fault (sym its ∙ is)
told_command_status_meaning_some fault status (inr none) is = absurd (omega (arith, none, is))

-- 2 is told of the input alone
pub told_command_status_means_input : (fault : CommandFault) (status : ℕ) → IsCommandExitStatusOf fault status → status ≡ 2 → IsCommandExitStatusOfInput fault
told_command_status_means_input fault status (inl its) is = command_status_means_inputs fault (sym its ∙ is)
told_command_status_means_input fault status (inr none) is = absurd (omega (arith, none, is))

-- all but 4 came before the output
pub told_command_status_means_before : (fault : CommandFault) (status : ℕ) → IsCommandExitStatusOf fault status → status ≢ 4
    → IsCommandExitStatusBeforeAnswer fault
told_command_status_means_before fault status (inl its) isnt = command_status_means_before fault (λ is. isnt (its ∙ is))
told_command_status_means_before fault status (inr none) isnt = absurd (isnt none)

-- what is told of a fault is 5 at most
pub told_command_status_meaning_small : (fault : CommandFault) (status : ℕ) → IsCommandExitStatusOf fault status → status ≤ 5
told_command_status_meaning_small fault status (inl its) = subst (λ n. n ≤ 5) (sym its) (command_status_meaning_small fault)
told_command_status_meaning_small fault status (inr none) = omega (arith, none)

pub told_command_status_meaning_not_7 : (fault : CommandFault) (status : ℕ) → IsCommandExitStatusOf fault status → status ≢ 7
told_command_status_meaning_not_7 fault status told is = absurd (omega (arith, told_command_status_meaning_small fault status told, is))

-- 3 is told only of a fault with that status
pub told_command_status_means_3 : (fault : CommandFault) (status : ℕ) → IsCommandExitStatusOf fault status → status ≡ 3 → command_exit_status_of fault ≡ 3
told_command_status_means_3 fault status (inl its) is = sym its ∙ is
told_command_status_means_3 fault status (inr none) is = absurd (omega (arith, none, is))
