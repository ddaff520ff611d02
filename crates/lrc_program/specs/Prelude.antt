-- The words that contracts name, passed on from one place. Declares nothing.
pub use Rattle.lrc_program.specs.Served.{IsServedAsAsked, IsServedByTurns, IsServedWithoutScript, IsServedReportPrinted, IsServedScriptRead, IsServed, served_lock_chosen}
pub use Rattle.lrc_program.specs.ExitStatus.{IsProgramExitStatusBeforeOutput, IsProgramExitStatusOfScript, IsProgramExitStatusOf, program_exit_status_of}
