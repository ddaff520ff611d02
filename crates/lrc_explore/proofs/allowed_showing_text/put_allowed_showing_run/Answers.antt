use Rattle.lrc_report.specs.ReportText.{report_events_text}
use Rattle.lrc_explore.proofs.AddedLines.{added_lines_of_four}
use Rattle.lrc_explore.proofs.allowed_showing_text.put_allowed_showing_run.Goals as goal

pub returns : goal.returns
returns c =
    added_lines_of_four c.args.text.now.items c.args.first.now c.args.outcome.now (report_events_text 0 c.args.events.now) c.args.answers.now
    c.in_ok-extend_from_slice.ensures.items c.in_ok-extend_from_slice-2.ensures.items c.in_ok-put_explored_events.ensures
    c.in_ok-extend_from_slice-3.ensures.items
