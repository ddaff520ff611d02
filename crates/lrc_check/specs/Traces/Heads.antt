-- The line of a trace's sizes: how it is read, and which numbers are sizes'.
use Rattle.std.specs.Prelude.{ℕ, ◌≡◌, ◌≢◌, ◌⊎◌, ◌^◌, ◌<◌, if◌then◌else◌, List, [], ◌∷◌, length, codes, Option, Some, None, Result, Err}
use Rattle.std.specs.List.{AllByRecursion, list_all}
use Rattle.journal.specs.Sizes.{Sizes}
use Rattle.lrc_script.specs.declared.fault.ScriptFault.{ScriptFault}
use Rattle.lrc_script.specs.declared.fault.ScriptFault.TheVariants.{BadLine}
use Rattle.lrc_script.specs.declared.line.LineKeyword.{LineKeyword}
use Rattle.lrc_script.specs.ScriptFront.{Nothing}
use Rattle.lrc_script.specs.LineReading.{line_read_word_has_bytes, is_read_line_due, line_read_keyword, line_read_numbers_after, parts_of_read_line}
use Rattle.lrc_script.specs.ScriptLines.{script_cluster_line, script_line_bytes, script_line_space}
use Rattle.lrc_check.specs.Traces.Sizes.{AreTraceSizes, trace_sizes_as_script}

-- the line is the word `cluster` and these numbers, four or five, each below 2 ^ 32
pub record IsTraceHeadOfNumbers (line ns : List ℕ) : Type 0 where
  pub line_is : line ≡ script_line_bytes (record { word = codes "cluster"; numbers = ns })
  pub count : (length ns ≡ 4) ⊎ (length ns ≡ 5)
  pub small : AllByRecursion (λ n. n < 2 ^ 32) ns

-- the numbers with which a line gives sizes
abbrev pub trace_head_numbers_of : Sizes → List ℕ
trace_head_numbers_of s = (script_cluster_line (trace_sizes_as_script s)).numbers

-- they are those of no sizes that a trace may have
abbrev pub AreNoTraceHeadNumbers : List ℕ → Type 0
AreNoTraceHeadNumbers ns = (s : Sizes) → AreTraceSizes s → ns ≢ trace_head_numbers_of s

-- the numbers behind a keyword, if a script's first line may begin with it
unfoldable pub trace_head_first_word_read : Option LineKeyword → List (List ℕ) → Result (List ℕ) ScriptFault
trace_head_first_word_read None ws = Err BadLine
trace_head_first_word_read (Some k) ws = if is_read_line_due Nothing k (length ws) then line_read_numbers_after [] ws else Err BadLine

abbrev pub trace_head_words_read : List (List ℕ) → Result (List ℕ) ScriptFault
trace_head_words_read [] = Err BadLine
trace_head_words_read (w ∷ ws) = if list_all line_read_word_has_bytes (w ∷ ws) then trace_head_first_word_read (line_read_keyword w) ws else Err BadLine

-- the numbers of a line, if it may be a script's first one
abbrev pub trace_head_numbers_read : List ℕ → Result (List ℕ) ScriptFault
trace_head_numbers_read line = trace_head_words_read (parts_of_read_line script_line_space line)
