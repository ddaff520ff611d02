use Rattle.lrc_check.proofs.StreamedTraces.{stream_race}
use Rattle.lrc_check.proofs.trace_stream.TraceStream.complete.Goals as goal

pub race_apart-requires : goal.race_apart-requires
race_apart-requires c = (c.requires.0, c.requires.1.trace, stream_race c.args.self.now c.args.judged.now.found c.requires.1)
