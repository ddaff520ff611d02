-- What is promised of the text of a run.
use Rattle.std.specs.Prelude.{ℕ, ◌≡◌, ⊤, false, List, [], ◌++◌, Option}
use Rattle.std.specs.Io.KnownBytes.{Appends}
use Rattle.lrc_report.specs.ReportText.{report_text}
use Rattle.lrc_explain.specs.declared.fault.ExplainFault.{ExplainFault}
use Rattle.lrc_explain.specs.declared.fault.ExplainFault.TheVariants.{Output}
use Rattle.conformance.specs.declared.ended.Ended.{Ended}
use Rattle.conformance.specs.declared.ended.Ended.TheVariants.{Halted, Whole}

-- what stands at the end of a run's text: its report without the journal, where it has one
abbrev pub explain_text_end : Ended → List ℕ
explain_text_end (Whole report) = report_text report false
explain_text_end (Halted halt) = []

-- some text with that end
abbrev pub IsExplainText : Ended → List ℕ → Type 0
IsExplainText ended text = (front : List ℕ) × (text ≡ front ++ explain_text_end ended)

-- such a text was appended
abbrev pub ExplainTextWritten : Option (List ℕ) → Option (List ℕ) → Ended → Type 0
ExplainTextWritten old new ended = (text : List ℕ) × (IsExplainText ended text × Appends old new text)

-- some text that ends with this one
abbrev pub IsExplainTextBefore : List ℕ → List ℕ → Type 0
IsExplainTextBefore end text = (front : List ℕ) × (text ≡ front ++ end)

-- such a text was appended: a trace's story, and behind it what was found
abbrev pub ExplainTextOfTraceWritten : Option (List ℕ) → Option (List ℕ) → List ℕ → Type 0
ExplainTextOfTraceWritten old new verdict = (text : List ℕ) × (IsExplainTextBefore verdict text × Appends old new text)

-- but for a failed output nothing was
abbrev pub ExplainTextUnwritten : Option (List ℕ) → Option (List ℕ) → ExplainFault → Type 0
ExplainTextUnwritten old new Output = ⊤
ExplainTextUnwritten old new _ = new ≡ old
