use Rattle.std.proofs.Common.{◌-◌, [], ◌∷◌, ◌++◌, length, take, ap, ◌∙◌, append_assoc}
use Rattle.lrc_report.specs.ReportText.{report_event_text}
use Rattle.lrc_check.specs.ToldLines.{told_line_label_mark}
use Rattle.lrc_check.proofs.verdict_text.put_verdict_line_text.Goals as goal

pub returns : goal.returns
returns c =
    let text = c.args.text.now.items in
    let line = report_event_text c.args.place c.args.event in
    let mark = told_line_label_mark c.args.label.now in
    let cut = take (length line - 1) line in
    rw (c.in_ok-push.ensures.items, c.in_ok-put_verdict_label_text.ensures, c.in_ok-extend_from_slice.ensures.items, c.bytes-bytes.ensures, c.render_report_event.ensures)
    (ap (λ x. x ++ 10 ∷ []) (append_assoc text cut mark) ∙ append_assoc text (cut ++ mark) (10 ∷ []))
