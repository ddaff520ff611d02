use Rattle.std.proofs.Common.{◌≡◌, ℕ, List}
use Rattle.std.specs.Io.KnownBytes.{Consumes}
use Rattle.lrc_check.specs.TraceStreams.{IsTraceStream}
use Rattle.lrc_commands.proofs.checking.check_command_streams.Given as goal

-- what the source had is what was read and judged, and what it has left
abbrev pub invariant-loop : goal.invariant-loop
invariant-loop g l = record {
  read : (fed : List ℕ) × Consumes (g.S.Read.remaining l.fn.source) (g.S.Read.remaining l.source) fed × IsTraceStream fed l.stream;
  rules : l.stream.rules ≡ l.fn.stream.rules;
}
