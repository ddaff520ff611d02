-- What was read of a trace's lines so far. The first of its events may have been let go of: these are the front.
use Rattle.std.specs.Prelude.{ℕ, ◌≡◌, ◌+◌, ◌≤◌, List, [], ◌++◌, length, Option, Some, None, IfSome}
use Rattle.journal.specs.declared.event.Event.{Event}
use Rattle.lrc_check.specs.declared.traces.trace.Trace.{Trace}
use Rattle.lrc_check.specs.declared.traces.trace.TraceSizes.{TraceSizes}
use Rattle.lrc_check.specs.Traces.LabelLines.{trace_line_count}
use Rattle.lrc_check.specs.Traces.LawfulTraces.{IsLawfulTrace, most_traced_events}
use Rattle.lrc_check.specs.Traces.Sizes.{trace_sizes_of}
use Rattle.lrc_check.specs.Traces.TraceText.{trace_text}

-- the sizes, if their line was read
abbrev pub trace_begun_sizes : Option Trace → Option TraceSizes
trace_begun_sizes None = None
trace_begun_sizes (Some t) = Some t.sizes

-- the events that were read and not let go of
abbrev pub trace_begun_events : Option Trace → List Event
trace_begun_events None = []
trace_begun_events (Some t) = t.events.items

-- the text of these sizes and events; there is none before the line of the sizes
abbrev pub trace_text_so_far : Option TraceSizes → List Event → List ℕ
trace_text_so_far None es = []
trace_text_so_far (Some s) es = trace_text (trace_sizes_of s) es

-- these sizes and events are a trace's, and the front has so many of them; there is none before the line of the sizes
abbrev pub IsTraceSoFar : Option TraceSizes → ℕ → List Event → List Event → Type 0
IsTraceSoFar None gone front es = (length front ≡ gone) × (front ++ es ≡ [])
IsTraceSoFar (Some s) gone front es = (length front ≡ gone) × IsLawfulTrace (trace_sizes_of s) (front ++ es)

-- how many lines of it are left, with that of the sizes
abbrev pub trace_begun_line_count : Option Trace → ℕ
trace_begun_line_count begun = trace_line_count (trace_begun_sizes begun) (trace_begun_events begun)

-- the text of what was read behind this front
abbrev pub trace_begun_text : List Event → Option Trace → List ℕ
trace_begun_text front begun = trace_text_so_far (trace_begun_sizes begun) (front ++ trace_begun_events begun)

-- what was read behind this front of so many events is, with it, a trace's
abbrev pub IsTraceBegun : ℕ → List Event → Option Trace → Type 0
IsTraceBegun gone front begun = IsTraceSoFar (trace_begun_sizes begun) gone front (trace_begun_events begun)

-- what was read behind so many events is a trace's, and they are not too many together
abbrev pub IsTraceLeft : ℕ → Option Trace → Type 0
IsTraceLeft gone None = gone ≡ 0
IsTraceLeft gone (Some t) =
    IsLawfulTrace (trace_sizes_of t.sizes) t.events.items × (gone + length t.events.items ≤ most_traced_events)

-- the sizes stay, once they are known
abbrev pub AreTraceSizesKept : Option TraceSizes → Option TraceSizes → Type 0
AreTraceSizesKept before after = IfSome before (λ s. after ≡ Some s)

-- the number of the next line, counted from 1, behind so many events
abbrev pub trace_begun_line_number : ℕ → Option Trace → ℕ
trace_begun_line_number gone None = 1
trace_begun_line_number gone (Some t) = gone + length t.events.items + 2

-- the lines were read on: the sizes stay, the events are those before and more, and with what was let go of it is a trace's still
pub record IsTraceReadOn (gone : ℕ) (before after : Option Trace) : Type 0 where
  pub left : IsTraceLeft gone after
  pub sizes : AreTraceSizesKept (trace_begun_sizes before) (trace_begun_sizes after)
  pub events : (more : List Event) × (trace_begun_events after ≡ trace_begun_events before ++ more)
  pub begun : (front : List Event) → IsTraceBegun gone front before → IsTraceBegun gone front after

-- a text begins with what was read behind this front
abbrev pub BeginsWithTraceBegun : List Event → Option Trace → List ℕ → Type 0
BeginsWithTraceBegun front begun text = (rest : List ℕ) × (text ≡ trace_begun_text front begun ++ rest)
