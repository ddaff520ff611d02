use Rattle.std.proofs.Common.{ℕ, ◌≡◌, ◌+◌, List, [], Option, None, Some, Bor, length}
use Rattle.lrc_script.specs.LineReading.{parts_behind_in_read_line}
use Rattle.conformance.specs.ScheduleTexts.{schedule_text_turns_after}
use Rattle.conformance.proofs.schedule.Schedule.parse.Given as goal

-- what was read before, and what is still read
abbrev pub invariant-loop-rest : goal.invariant-loop-rest
invariant-loop-rest l =
    schedule_text_turns_after l.turns.items (parts_behind_in_read_line 44 l.rest) ≡ schedule_text_turns_after [] (parts_behind_in_read_line 44 l.initial.rest)

-- how many bytes are left, and one if some part is
abbrev pub left : Option (Bor (List ℕ)) → ℕ
left None = 0
left (Some bytes) = length bytes.now + 1

abbrev pub decreases-loop-rest : goal.decreases-loop-rest
decreases-loop-rest l = left l.rest
