use Rattle.std.proofs.Common.{◌≡◌, ◌++◌, map, take}
use Rattle.std.specs.String.{string_bytes}
use Rattle.lrc_program.specs.Hints.Excerpts.{excerpt_sign_of}
use Rattle.lrc_program.proofs.hints.excerpt.put_excerpt_signs.Given as goal

abbrev pub invariant-loop-byte : goal.invariant-loop-byte
invariant-loop-byte l =
    string_bytes l.text ≡ string_bytes l.fn.text ++ map excerpt_sign_of (take l.byte-index l.bytes)
