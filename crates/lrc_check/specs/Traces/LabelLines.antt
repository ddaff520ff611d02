-- The labels of lines that were read, each on a line of its own.
use Rattle.std.specs.Prelude.{◌≡◌, ℕ, ◌+◌, Bool, true, false, List, [], ◌∷◌, ◌++◌, length, Option, Some, None}
use Rattle.std.specs.List.{AllByRecursion, flat_map}
use Rattle.journal.specs.declared.event.Event.{Event}
use Rattle.lrc_script.specs.ScriptFaults.{HasNoLineFeed}
use Rattle.lrc_check.specs.declared.traces.trace.TraceSizes.{TraceSizes}

-- the text of these lines
abbrev pub trace_label_lines : List (List ℕ) → List ℕ
trace_label_lines ls = flat_map (λ l. l ++ 10 ∷ []) ls

-- the text has so many lines, each with its line feed
pub record AreTraceLabelLines (n : ℕ) (text : List ℕ) : Type 0 where
  pub lines : List (List ℕ)
  pub count : length lines ≡ n
  pub each : AllByRecursion HasNoLineFeed lines
  pub text_is : text ≡ trace_label_lines lines

-- how many lines these sizes and events have; there is none before the line of the sizes
abbrev pub trace_line_count : Option TraceSizes → List Event → ℕ
trace_line_count None es = 0
trace_line_count (Some s) es = length es + 1

-- the text has the labels of so many lines but for the first ones, of which there are so many
abbrev pub AreTraceLabelsBehind : ℕ → ℕ → List ℕ → Type 0
AreTraceLabelsBehind gone count text = (n : ℕ) × (n + gone ≡ count) × AreTraceLabelLines n text

-- behind so many events, and as many labels of theirs, the labels of so many lines are left, with or without that of the sizes
abbrev pub AreTraceLabelsLeft : Bool → ℕ → ℕ → List ℕ → List ℕ → Type 0
AreTraceLabelsLeft true gone count told left = (gone ≡ 0) × (told ≡ []) × AreTraceLabelsBehind 0 count left
AreTraceLabelsLeft false gone count told left = AreTraceLabelLines (gone + 1) told × AreTraceLabelsBehind 1 count left
