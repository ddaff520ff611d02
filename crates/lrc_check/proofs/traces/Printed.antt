-- What is printed of a journal.
use Rattle.std.proofs.Common.{◌≡◌, ℕ, List, ◌++◌, ap}
use Rattle.journal.specs.declared.event.Event.{Event}
use Rattle.lrc_report.specs.ReportText.{report_cut_text, report_events_text, report_left_text}
use Rattle.lrc_check.specs.Traces.Laws.{PrintedTraceLaw}
use Rattle.lrc_check.specs.Traces.TraceText.{trace_text_first_line, trace_text}
use Rattle.lrc_check.proofs.traces.TextParts.{text_parts_of_no_other_trace}

-- with nothing cut off, just the events' lines
trace_printed_all_left : (n : ℕ) (es : List Event) → n ≡ 0 → report_cut_text n ++ report_events_text n es ≡ report_events_text 0 es
trace_printed_all_left n es e = ap (λ (m : ℕ). report_cut_text m ++ report_events_text m es) e

pub trace_printed : PrintedTraceLaw
trace_printed s j h cut =
    let whole : trace_text_first_line s ++ report_left_text j ≡ trace_text s j.events =
    ap (λ (x : List ℕ). trace_text_first_line s ++ x) (trace_printed_all_left j.base.cut j.events cut) in
    (whole, text_parts_of_no_other_trace s j.events (trace_text_first_line s ++ report_left_text j) h whole)
