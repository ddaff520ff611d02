use Rattle.std.proofs.Common.{◌≡◌, ℕ, ◌+◌, [], slice_index_or}
use Rattle.lrc_script.specs.LineReading.{parts_of_read_line}
use Rattle.lrc_check.proofs.traces.labels.line_of_trace_labels.Given as goal

-- as many lines are passed
abbrev pub invariant-loop : goal.invariant-loop
invariant-loop l =
    (n : ℕ) → l.counter + n ≡ l.index
    → slice_index_or (parts_of_read_line 10 l.behind) n [] ≡ slice_index_or (parts_of_read_line 10 l.fn.lines) l.index []
