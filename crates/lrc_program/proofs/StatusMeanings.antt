-- What a status tells of the fault.
use Rattle.std.proofs.Common.{◌≡◌, ◌≢◌, ◌∙◌, ℕ, inl, inr, sym, refl, arith}
use Rattle.conformance.specs.declared.cause.Cause.{Cause}
use Rattle.conformance.specs.declared.cause.Cause.TheVariants.{Stuck, Gate, Thread, Refused}
use Rattle.lrc_program.specs.declared.fault.ProgramFault.{ProgramFault}
use Rattle.lrc_program.specs.declared.fault.ProgramFault.TheVariants.{Words, Unreadable, Script, Schedule, Run, Output, NoMemory}
use Rattle.lrc_program.specs.ExitStatus.{program_exit_status_of_cause, program_exit_status_of, IsProgramExitStatusOf, IsProgramExitStatusOfScript, IsProgramExitStatusBeforeOutput}

-- a run's fault has status 3 or 4
program_status_meaning_of_cause_some : (cause : Cause) → program_exit_status_of_cause cause ≢ 0
program_status_meaning_of_cause_some Stuck is = absurd (omega (arith, is))
program_status_meaning_of_cause_some Gate is = absurd (omega (arith, is))
program_status_meaning_of_cause_some Thread is = absurd (omega (arith, is))
program_status_meaning_of_cause_some (Refused refused) is = absurd (omega (arith, is))

-- and not that of a script's
program_status_meaning_of_cause_others : (cause : Cause) → program_exit_status_of_cause cause ≢ 2
program_status_meaning_of_cause_others Stuck is = absurd (omega (arith, is))
program_status_meaning_of_cause_others Gate is = absurd (omega (arith, is))
program_status_meaning_of_cause_others Thread is = absurd (omega (arith, is))
program_status_meaning_of_cause_others (Refused refused) is = absurd (omega (arith, is))

-- a fault has some status
pub program_status_meaning_some : (fault : ProgramFault) → program_exit_status_of fault ≢ 0
program_status_meaning_some (Words reason) is = absurd (omega (arith, is))
program_status_meaning_some (Unreadable reason) is = absurd (omega (arith, is))
program_status_meaning_some (Script line fault) is = absurd (omega (arith, is))
program_status_meaning_some (Schedule turn misfit) is = absurd (omega (arith, is))
program_status_meaning_some (Run fault) is = program_status_meaning_of_cause_some fault.cause is
program_status_meaning_some Output is = absurd (omega (arith, is))
program_status_meaning_some NoMemory is = absurd (omega (arith, is))

-- status 2 is the script's
pub program_status_means_scripts : (fault : ProgramFault) → program_exit_status_of fault ≡ 2 → IsProgramExitStatusOfScript fault
program_status_means_scripts (Words reason) is = absurd (omega (arith, is))
program_status_means_scripts (Unreadable reason) is = absurd (omega (arith, is))
program_status_means_scripts (Script line fault) is = tt
program_status_means_scripts (Schedule turn misfit) is = absurd (omega (arith, is))
program_status_means_scripts (Run fault) is = absurd (program_status_meaning_of_cause_others fault.cause is)
program_status_means_scripts Output is = absurd (omega (arith, is))
program_status_means_scripts NoMemory is = absurd (omega (arith, is))

-- a fault of the output has status 4
pub before : (fault : ProgramFault) → program_exit_status_of fault ≢ 4 → IsProgramExitStatusBeforeOutput fault
before (Words reason) isnt = tt
before (Unreadable reason) isnt = tt
before (Script line fault) isnt = tt
before (Schedule turn misfit) isnt = tt
before (Run fault) isnt = tt
before Output isnt = absurd (isnt refl)
before NoMemory isnt = tt

-- what is told isn't 0
pub told_program_status_meaning_some : (fault : ProgramFault) (status : ℕ) → IsProgramExitStatusOf fault status → status ≢ 0
told_program_status_meaning_some fault status (inl its) is = program_status_meaning_some fault (sym its ∙ is)
told_program_status_meaning_some fault status (inr none) is = absurd (omega (arith, none, is))

-- 2 is told of the script alone
pub told_program_status_means_script : (fault : ProgramFault) (status : ℕ) → IsProgramExitStatusOf fault status → status ≡ 2 → IsProgramExitStatusOfScript fault
told_program_status_means_script fault status (inl its) is = program_status_means_scripts fault (sym its ∙ is)
told_program_status_means_script fault status (inr none) is = absurd (omega (arith, none, is))

-- all but 4 came before the output
pub told_program_status_means_before : (fault : ProgramFault) (status : ℕ) → IsProgramExitStatusOf fault status → status ≢ 4 → IsProgramExitStatusBeforeOutput fault
told_program_status_means_before fault status (inl its) isnt = before fault (λ is. isnt (its ∙ is))
told_program_status_means_before fault status (inr none) isnt = absurd (isnt none)
