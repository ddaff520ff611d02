-- The words that contracts name, passed on from one place. Declares nothing.
pub use Rattle.seats.specs.Acting.{HasActed, HasActedInPart, HasSummed, loads_at, acting_loads_from}
pub use Rattle.seats.specs.BalanceFacts.{BalanceFactLaw, HasFoundKept, HasWeighed, KeepsBalanceFact, balance_fact_adds_two, balance_fact}
pub use Rattle.seats.specs.GuardedRuns.{IsGuardedRun, IsGuardedRunFault}
pub use Rattle.seats.specs.KeptLayout.{kept_layout_lets_access}
pub use Rattle.seats.specs.PhaseGuards.{phase_guards_allow_access}
pub use Rattle.seats.specs.GuardLaws.{SeatGuardLaw, SeatTableGuardLaw}
pub use Rattle.seats.specs.Tables.{IsFirstOpenInTables, IsPutInTable, TablesOpenNothing, table_guard, table_guard_put, table_range_has, table_next}
pub use Rattle.cluster.specs.Covers.{IsCoverAllowed}
pub use Rattle.seats.specs.ProgramRuns.{AreSeatedForProgramRun, HasRoomForProgramRun, HaveAllJoinedProgramRun, HaveAllWorkedInProgramRun, IsNobodyInProgramRun, IsProgramRun}
pub use Rattle.seats.specs.ProgramRuns.{AreProgramRunEnds, HaveEndedInProgramRun, IsProgramRunFault, IsProgramRunWork, program_run_seat}
pub use Rattle.seats.specs.ToldFaults.{IsToldFault, NoneFaulted, is_vain_wait, told_fault_then}
pub use Rattle.seats.specs.Sitting.{HasWorkedSitting, IsSitting, new_sitting_processor, seat_deeds}
pub use Rattle.seats.specs.SeatCalls.{SeatCallAccessesBy, AccessesPage, HasDone, IsSeatCallTaken, IsLeftUndone, IsSeatCallUndone}
pub use Rattle.seats.specs.SeatCalls.{IsSeatedAfterCall, SeatCallWaitsStill, seat_call_and_answer}
pub use Rattle.seats.specs.Loads.{LoadsValue}
pub use Rattle.seats.specs.GridPairs.{GridPairsLaw, grid_pair_at, grid_pair_rounds, grid_pair_block_end, grid_pair_block_start, grid_pair_made, grid_pair_read}
pub use Rattle.seats.specs.Rounds.{HasMadeRounds, RoundsLaw}
pub use Rattle.seats.specs.Stencils.{IsStencilBlockMade, HasStencilLoads, StencilSteps, stencil_after, stencil_rounds, stencil_word}
pub use Rattle.seats.specs.Tenures.{IsBetweenTenures, KeptFact, TenuresKeepLaw, TenuresReadLaw, tenure_of_lock}
pub use Rattle.seats.specs.WordTallies.{WordTallyLaw, AddsUpTo, word_tally_adding}
pub use Rattle.seats.specs.SeatCallFaults.{HasSeatCallFaultIn, IsSeatCallAccessFault, IsSeatCallAccessRefusal, IsSeatCallFault, IsSeatCallWaitFault, IsSeatCallWaitTold}
pub use Rattle.cluster.specs.ProcessorRefusals.{processor_refusal_at_once, processor_refusal_of_access, processor_refusal_or_spent}
pub use Rattle.seats.specs.GridPairLayouts.{IsGridPairLayout, IsGridPairRoundPut}
