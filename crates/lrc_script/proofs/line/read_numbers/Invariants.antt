use Rattle.std.proofs.Common.{◌≡◌, ◌+◌, [], length, Option, Some, None, ℕ, List, Bor}
use Rattle.lrc_script.specs.LineReading.{parts_behind_in_read_line, line_read_numbers_after}
use Rattle.lrc_script.proofs.line.read_numbers.Given as goal

-- what was read before, and what is still read
abbrev pub invariant-loop-rest : goal.invariant-loop-rest
invariant-loop-rest l =
    line_read_numbers_after l.numbers.items (parts_behind_in_read_line 32 l.rest) ≡ line_read_numbers_after [] (parts_behind_in_read_line 32 l.initial.rest)

abbrev pub left : Option (Bor (List ℕ)) → ℕ
left None = 0
left (Some bytes) = length bytes.now + 1

abbrev pub decreases-loop-rest : goal.decreases-loop-rest
decreases-loop-rest l = left l.rest
