-- What is promised of traces.
use Rattle.std.specs.Prelude.{◌≡◌, ◌≤◌, List, ◌++◌, length, All, ◌≢◌, ℕ, ◌<◌}
use Rattle.base.specs.Limits.{most_cut}
use Rattle.journal.specs.declared.event.Event.{Event}
use Rattle.journal.specs.Sizes.{Sizes}
use Rattle.journal.specs.Log.{Log}
use Rattle.journal.specs.WellFormed.{WellFormed}
use Rattle.lrc_report.specs.ReportText.{report_left_text}
use Rattle.lrc_check.specs.declared.traces.fault.TraceFault.{TraceFault}
use Rattle.lrc_check.specs.declared.traces.fault.TraceFault.TheVariants.{Cut, NoMemory}
use Rattle.lrc_check.specs.Traces.Sizes.{AreTraceSizes}
use Rattle.lrc_check.specs.Traces.TraceText.{trace_text_first_line, trace_text}
use Rattle.lrc_check.specs.Traces.Labels.{without_trace_labels}
use Rattle.lrc_check.specs.Traces.LawfulTraces.{HasLawfulTraceWords, IsNoOtherLawfulTrace, IsLawfulTrace, most_traced_events}
use Rattle.lrc_check.specs.Traces.TraceFaults.{IsTraceFault}

-- a trace's text has no label
abbrev pub UnlabelledTraceLaw : Type 0
UnlabelledTraceLaw = (s : Sizes) (es : List Event) → IsLawfulTrace s es → without_trace_labels (trace_text s es) ≡ trace_text s es

-- no two traces have one text
abbrev pub OneTraceLaw : Type 0
OneTraceLaw = (s : Sizes) (es : List Event) → IsLawfulTrace s es → IsNoOtherLawfulTrace (trace_text s es) s es

-- a well formed journal of words, no longer than a trace may be, is a trace
abbrev pub WellFormedTraceLaw : Type 0
WellFormedTraceLaw = (s : Sizes) (es : List Event) → AreTraceSizes s → length es ≤ most_traced_events → WellFormed s es
    → All (λ e. HasLawfulTraceWords e.kind) es → IsLawfulTrace s es

-- what is printed of a journal of which nothing was cut off is, behind the line of its sizes, the text of a trace of
-- its events, if they are one, and of no other
abbrev pub PrintedTraceLaw : Type 0
PrintedTraceLaw = (s : Sizes) (j : Log) → IsLawfulTrace s j.events → j.base.cut ≡ 0
    → (trace_text_first_line s ++ report_left_text j ≡ trace_text s j.events)
    × IsNoOtherLawfulTrace (trace_text_first_line s ++ report_left_text j) s j.events

-- what is left of a journal of which something was cut off is refused at its second line as that, unless memory ran
-- out
abbrev pub CutRefusedLaw : Type 0
CutRefusedLaw = (s : Sizes) (j : Log) (n : ℕ) (fault : TraceFault) → AreTraceSizes s → 0 < j.base.cut
    → j.base.cut ≤ most_cut → fault ≢ NoMemory → IsTraceFault (trace_text_first_line s ++ report_left_text j) n fault
    → (n ≡ 2) × (fault ≡ Cut)
