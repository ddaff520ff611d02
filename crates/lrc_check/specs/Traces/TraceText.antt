-- The text of a trace.
use Rattle.std.specs.Prelude.{ℕ, List, ◌++◌}
use Rattle.journal.specs.declared.event.Event.{Event}
use Rattle.journal.specs.Sizes.{Sizes}
use Rattle.lrc_script.specs.ScriptLines.{script_cluster_line, script_line_text}
use Rattle.lrc_report.specs.ReportText.{report_events_text}
use Rattle.lrc_check.specs.Traces.Sizes.{trace_sizes_as_script}

-- the line of the sizes, as a script begins
abbrev pub trace_text_first_line : Sizes → List ℕ
trace_text_first_line s = script_line_text (script_cluster_line (trace_sizes_as_script s))

-- the one text of a trace: the sizes, and a line for each event, as a report has them
abbrev pub trace_text : Sizes → List Event → List ℕ
trace_text s es = trace_text_first_line s ++ report_events_text 0 es
