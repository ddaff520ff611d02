-- The words that contracts name, passed on from one place. Declares nothing.
pub use Rattle.lrc_commands.specs.ExitStatus.{IsCommandExitStatusBeforeAnswer, IsCommandExitStatusOfInput, IsCommandExitStatusOf, command_exit_status_of}
pub use Rattle.lrc_commands.specs.TraceCommand.{IsTraceCommandEnding, HasTraceCommandText, IsTraceCommandFound, IsTraceCommandText, IsTraceCommandOnFaithful, IsTraceCommandJudgedAs, IsTraceCommandOnLie, HasNoTraceCommandFront, IsTraceCommandOnNone, IsTraceCommandNoText, IsTraceCommandOnRacy, IsTraceCommandOnHeld, IsTraceCommandToldAs, IsTraceCommandReadSoFar, IsTraceCommandOnUnfaithful}
pub use Rattle.lrc_commands.specs.TraceCommand.{trace_command_ending, trace_command_locksets, trace_command_model, trace_command_judgement}
pub use Rattle.lrc_commands.specs.SampleCommand.{IsSampleCommandAnswer, IsSampleCommandWritten, IsSampleCommandOnSource, sample_command_detail, sample_command_lock}
pub use Rattle.lrc_commands.specs.ExplainCommand.{IsExplainCommandEnd, IsExplainCommandOnSource, IsExplainCommandRun, ExplainCommandWritten, is_explain_command_halted}
pub use Rattle.lrc_commands.specs.WhyUnshown.{IsWhyUnshown}
