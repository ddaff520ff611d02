-- The labels of lines: what stands on a line behind two spaces in a row is the logger's own. And the lines that are passed over.
use Rattle.std.specs.Prelude.{ℕ, Bool, true, ◌≡◌, ◌<◌, ◌^◌, ◌++◌, ◌+◌, suc, ◌==◌, ◌&&◌, Some, if◌then◌else◌, List, [], ◌∷◌, drop, length, map, nat_le, slice_get, slice_index, slice_index_or, take}
use Rattle.std.specs.Global.{Vec}
use Rattle.std.specs.List.{join_with_byte}
use Rattle.lrc_script.specs.LineReading.{parts_of_read_line}

-- how many bytes stand before the first two spaces in a row, or all
abbrev pub trace_label_space_at : List ℕ → ℕ
trace_label_space_at [] = 0
trace_label_space_at (b ∷ bytes) = if (b == 32) && (slice_index bytes 0 == 32) then 0 else suc (trace_label_space_at bytes)

-- how many bytes of a line aren't its label's: it has one byte at least before its label
abbrev pub trace_label_at : List ℕ → ℕ
trace_label_at [] = 0
trace_label_at (b ∷ bytes) = suc (trace_label_space_at bytes)

-- a line without its label
abbrev pub line_without_trace_label : List ℕ → List ℕ
line_without_trace_label line = take (trace_label_at line) line

-- its label, without a byte if it has none
abbrev pub trace_line_label : List ℕ → List ℕ
trace_line_label line = drop (trace_label_at line + 2) line

-- the line is passed over: it is empty, or begins with 35, a number sign
abbrev pub is_trace_line_passed_over : List ℕ → Bool
is_trace_line_passed_over [] = true
is_trace_line_passed_over (b ∷ bytes) = b == 35

-- the lines that aren't passed over, and what stands behind the last line feed
abbrev pub told_trace_lines : List (List ℕ) → List (List ℕ)
told_trace_lines [] = []
told_trace_lines (l ∷ []) = l ∷ []
told_trace_lines (l ∷ m ∷ ls) = if is_trace_line_passed_over l then told_trace_lines (m ∷ ls) else l ∷ told_trace_lines (m ∷ ls)

-- how many of these lines are passed over, and what stands behind the last line feed never is
abbrev pub passed_over_lines : List (List ℕ) → ℕ
passed_over_lines [] = 0
passed_over_lines (l ∷ []) = 0
passed_over_lines (l ∷ m ∷ ls) = (if is_trace_line_passed_over l then 1 else 0) + passed_over_lines (m ∷ ls)

-- how many lines of a text are
abbrev pub trace_lines_passed_over : List ℕ → ℕ
trace_lines_passed_over bytes = passed_over_lines (parts_of_read_line 10 bytes)

-- so many were passed over when these bytes were to come, and so many are now that these are left, unless 64 bits don't hold them
abbrev pub ArePassedOver : ℕ → List ℕ → ℕ → List ℕ → Type 0
ArePassedOver was bytes now left = (more : List ℕ) → was + trace_lines_passed_over (bytes ++ more) < 2 ^ 64
    → now + trace_lines_passed_over (left ++ more) ≡ was + trace_lines_passed_over (bytes ++ more)

-- the text with each of its lines changed so, but for those that are passed over, which it doesn't have
abbrev pub trace_label_by_lines : (List ℕ → List ℕ) → List ℕ → List ℕ
trace_label_by_lines change bytes = join_with_byte 10 (map change (told_trace_lines (parts_of_read_line 10 bytes)))

-- a text without its labels, and without the lines that are passed over
abbrev pub without_trace_labels : List ℕ → List ℕ
without_trace_labels bytes = trace_label_by_lines line_without_trace_label bytes

-- the labels of a text, each on a line where its own line stands among those that aren't passed over
abbrev pub trace_labels_of : List ℕ → List ℕ
trace_labels_of bytes = trace_label_by_lines trace_line_label bytes

-- a byte of a label as it is shown among other words: one that is no printable sign of ASCII is 63, a question mark
abbrev pub trace_label_byte_shown : ℕ → ℕ
trace_label_byte_shown b = if nat_le 32 b && nat_le b 126 then b else 63

-- of these labels that of the event at a place, behind the line of the sizes
abbrev pub trace_event_label : List ℕ → ℕ → List ℕ
trace_event_label labels place = slice_index_or (parts_of_read_line 10 labels) (place + 1) []

-- these are the labels of the first n events as they are shown among other words
pub record AreTraceLabelsShown (labels : List ℕ) (n : ℕ) (shown : Vec (Vec ℕ)) : Type 0 where
  pub long : length shown.items ≡ n
  pub each : (k : ℕ) (v : Vec ℕ) → slice_get shown.items k ≡ Some v → v.items ≡ map trace_label_byte_shown (trace_event_label labels k)
