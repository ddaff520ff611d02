use Rattle.lrc_check.proofs.traces.Printed.{trace_printed}
use Rattle.lrc_check.proofs.traces.laws.printed_trace_law.Goals as goal

pub returns : goal.returns
returns c = trace_printed
