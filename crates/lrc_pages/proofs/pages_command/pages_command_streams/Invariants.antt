use Rattle.std.proofs.Common.{◌≡◌, ℕ, List}
use Rattle.std.specs.Io.KnownBytes.{Consumes}
use Rattle.lrc_pages.specs.PageStreams.{IsPageStream}
use Rattle.lrc_pages.proofs.pages_command.pages_command_streams.Given as goal

-- what the source had is what was read and told, and what it has left
abbrev pub invariant-loop : goal.invariant-loop
invariant-loop g l = record {
  read : (fed : List ℕ) × Consumes (g.S.Read.remaining l.fn.source) (g.S.Read.remaining l.source) fed × IsPageStream fed l.stream;
  words : l.stream.words ≡ l.fn.stream.words;
  most : l.stream.most ≡ l.fn.stream.most;
}
