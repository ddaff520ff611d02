-- What is read of the bytes of a trace so far. The events that were let go of and their labels are no part of it.
use Rattle.std.specs.Prelude.{◌≡◌, ℕ, ◌+◌, Bool, List, ◌++◌, Option, Some}
use Rattle.journal.specs.declared.event.Event.{Event}
use Rattle.journal.specs.Sizes.{Sizes}
use Rattle.lrc_script.specs.ScriptFaults.{HasNoLineFeed}
use Rattle.lrc_check.specs.declared.traces.fault.TraceFault.{TraceFault}
use Rattle.lrc_check.specs.declared.traces.trace.TraceSizes.{TraceSizes}
use Rattle.lrc_check.specs.Traces.Begun.{IsTraceSoFar, trace_text_so_far}
use Rattle.lrc_check.specs.Traces.LabelLines.{AreTraceLabelsLeft, trace_line_count}
use Rattle.lrc_check.specs.Traces.Labels.{ArePassedOver, without_trace_labels, trace_labels_of}
use Rattle.lrc_check.specs.Traces.LawfulTraces.{IsLawfulTrace, IsNoOtherLawfulTrace}
use Rattle.lrc_check.specs.Traces.Sizes.{trace_sizes_of}
use Rattle.lrc_check.specs.Traces.TraceText.{trace_text}
use Rattle.lrc_check.specs.Traces.TraceFaults.{IsTraceFault}

-- how many events were let go of; whether the label of the sizes' line wasn't; the sizes, if their line was read; the events
-- behind those; the labels that were not let go of; the bytes of the line that isn't whole; and how many lines were passed over
pub record FedText : Type 0 where
  pub gone : ℕ
  pub headed : Bool
  pub sizes : Option TraceSizes
  pub events : List Event
  pub labels : List ℕ
  pub unfinished : List ℕ
  pub passed : ℕ

-- what is read behind this front if these bytes come next: the text without its labels
abbrev pub fed_text_with : List Event → FedText → List ℕ → List ℕ
fed_text_with front x more = trace_text_so_far x.sizes (front ++ x.events) ++ without_trace_labels (x.unfinished ++ more)

-- and the labels, behind those that were let go of
abbrev pub fed_text_labels_with : List ℕ → FedText → List ℕ → List ℕ
fed_text_labels_with told x more = told ++ (x.labels ++ trace_labels_of (x.unfinished ++ more))

-- this is what was read of these bytes, however they go on, where these events and labels were let go of
pub record IsFedTextOf (bytes : List ℕ) (front : List Event) (told : List ℕ) (x : FedText) : Type 0 where
  pub text : (more : List ℕ) → fed_text_with front x more ≡ without_trace_labels (bytes ++ more)
  pub labels : (more : List ℕ) → fed_text_labels_with told x more ≡ trace_labels_of (bytes ++ more)
  pub trace : IsTraceSoFar x.sizes x.gone front x.events
  pub lines : AreTraceLabelsLeft x.headed x.gone (trace_line_count x.sizes x.events) told x.labels
  pub passed : ArePassedOver 0 bytes x.passed x.unfinished

-- these are sizes and events of the first lines of these bytes, however they go on, where these events were let go of. It is
-- so also where a line behind them was refused.
pub record HasReadFedText (bytes : List ℕ) (front : List Event) (x : FedText) : Type 0 where
  pub trace : IsTraceSoFar x.sizes x.gone front x.events
  pub text : (more : List ℕ) → (rest : List ℕ)
      × (without_trace_labels (bytes ++ more) ≡ trace_text_so_far x.sizes (front ++ x.events) ++ rest)

-- the number of the line behind those that were read, counted from 1
abbrev pub fed_text_line_number : FedText → ℕ
fed_text_line_number x = x.gone + trace_line_count x.sizes x.events + 1

-- the bytes are, without their labels, the text of the trace that was read, and of no other; and the labels are theirs
pub record IsFedTextWhole (bytes : List ℕ) (front : List Event) (told : List ℕ) (x : FedText) : Type 0 where
  pub sizes : TraceSizes
  pub known : x.sizes ≡ Some sizes
  pub trace : IsLawfulTrace (trace_sizes_of sizes) (front ++ x.events)
  pub text : without_trace_labels bytes ≡ trace_text (trace_sizes_of sizes) (front ++ x.events)
  pub again : IsNoOtherLawfulTrace (without_trace_labels bytes) (trace_sizes_of sizes) (front ++ x.events)
  pub labels : told ++ x.labels ≡ trace_labels_of bytes

-- the bytes are, without their labels, the text of this trace and the beginning of a line
abbrev pub IsUnfinishedTrace : List ℕ → Sizes → List Event → Type 0
IsUnfinishedTrace bytes s es = (left : List ℕ) × HasNoLineFeed left × (without_trace_labels bytes ≡ trace_text s es ++ left)

-- they are of no trace
abbrev pub IsNoUnfinishedTrace : List ℕ → Type 0
IsNoUnfinishedTrace bytes = (s : Sizes) (es : List Event) → IsLawfulTrace s es → ¬ IsUnfinishedTrace bytes s es

-- however the bytes go on, line n has the fault
abbrev pub FedTextFaultStays : List ℕ → ℕ → TraceFault → Type 0
FedTextFaultStays bytes n fault = (more : List ℕ) → IsTraceFault (without_trace_labels (bytes ++ more)) n fault

-- some trace has a text, with labels, that begins so
abbrev pub FedTextBeginsTrace : List ℕ → Type 0
FedTextBeginsTrace bytes =
    (s : Sizes) × (es : List Event) × IsLawfulTrace s es × (more : List ℕ) × (trace_text s es ≡ without_trace_labels (bytes ++ more))
