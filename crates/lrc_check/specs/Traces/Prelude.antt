-- The words that contracts name, passed on from one place. Declares nothing.
pub use Rattle.lrc_check.specs.Traces.Sizes.{AreTraceSizes, trace_sizes_as_script, trace_sizes_of}
pub use Rattle.lrc_check.specs.Traces.Heads.{AreNoTraceHeadNumbers, trace_head_numbers_of, trace_head_numbers_read}
pub use Rattle.lrc_check.specs.Traces.TraceText.{trace_text_first_line, trace_text}
pub use Rattle.lrc_check.specs.Traces.LawfulTraces.{HasLawfulTraceWords, IsNoOtherLawfulTrace, IsNoLawfulTrace, IsLawfulTrace, IsWithinLawfulTrace, most_traced_events}
pub use Rattle.lrc_check.specs.Traces.Begun.{AreTraceSizesKept, BeginsWithTraceBegun, IsTraceBegun, IsTraceLeft, IsTraceReadOn, IsTraceSoFar, trace_begun_events, trace_begun_line_count, trace_begun_line_number, trace_begun_sizes, trace_begun_text, trace_text_so_far}
pub use Rattle.lrc_check.specs.Traces.Names.{trace_name_operand_count, trace_name_meaning, trace_name_of_word, trace_name_numbers, trace_name_word}
pub use Rattle.lrc_check.specs.Traces.TraceLines.{TraceLineGivesKind, HasBadTraceLineNumber, HasNoTraceLineShape, TraceLineRead, IsTraceLineOfCut, IsTraceLineDue, IsTraceLineOfEvent, IsTraceLineShaped}
pub use Rattle.lrc_check.specs.Traces.TraceFaults.{BeginsTraceText, TraceFaultSaysOfEvent, TraceFaultSaysOfHead, IsTraceFault, IsTraceFaultAt, IsTraceFaultBehind, IsTraceFaultInHead, IsTraceFaultPast}
pub use Rattle.lrc_check.specs.Traces.TraceFaults.{TraceFaultSaysNoSizes, TraceLineHasSizes, IsTraceFaultLasting, IsTraceFaultOfNoEvent, TraceFaultSaysOfLine, TraceFaultRefuses, trace_fault_from_script}
pub use Rattle.lrc_check.specs.Traces.Laws.{UnlabelledTraceLaw, CutRefusedLaw, OneTraceLaw, PrintedTraceLaw, WellFormedTraceLaw}
pub use Rattle.lrc_check.specs.Traces.Labels.{ArePassedOver, AreTraceLabelsShown, trace_lines_passed_over, is_trace_line_passed_over, without_trace_labels, line_without_trace_label, trace_event_label, trace_label_at, trace_labels_of, trace_line_label, trace_label_byte_shown}
pub use Rattle.lrc_check.specs.Traces.LabelLines.{AreTraceLabelLines, AreTraceLabelsBehind, AreTraceLabelsLeft, trace_label_lines, trace_line_count}
pub use Rattle.lrc_check.specs.Traces.FedText.{FedTextBeginsTrace, IsUnfinishedTrace, IsNoUnfinishedTrace, IsFedTextOf, IsFedTextWhole, FedTextFaultStays, FedText, HasReadFedText, fed_text_labels_with, fed_text_line_number, fed_text_with}
pub use Rattle.lrc_check.specs.Traces.RefusedLines.{IsFedLineRefused, IsLineRefused, IsToldLineLeft}
