-- The words that contracts name, passed on from one place. Declares nothing.
pub use Rattle.lrc_report.specs.WritesThrough.{WritesThrough, WritesThroughOrFails, most_digits, most_kind, most_line, most_pending}
pub use Rattle.lrc_report.specs.ReportText.{report_cut_text, report_event_text, report_events_text, report_journal_text, report_kind_text, report_left_text}
pub use Rattle.lrc_report.specs.ReportText.{report_text, report_summary_text, report_traffic_text, report_verdict_text, report_word_text}
