use Rattle.std.proofs.Common.{◌≡◌, length}
use Rattle.std.specs.Io.KnownBytes.{Keeps}
use Rattle.lrc_commands.proofs.checking.check_command_reads_some.Given as goal

-- reads that were broken off took nothing
abbrev pub invariant-loop : goal.invariant-loop
invariant-loop g l = record {
  room : length l.piece ≡ length l.fn.piece;
  kept : Keeps (g.S.Read.remaining l.fn.source) (g.S.Read.remaining l.source);
}
