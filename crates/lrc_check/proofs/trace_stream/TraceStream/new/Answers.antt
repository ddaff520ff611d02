use Rattle.std.proofs.Common.{[]}
use Rattle.lrc_check.proofs.trace_stream.TraceStream.new.Goals as goal

pub returns-clause-stream : goal.returns-clause-stream
returns-clause-stream c = ([], [], record { read = c.new.ensures.fed; judged = (c.new.ensures.sizes, c.new.ensures.events) })
