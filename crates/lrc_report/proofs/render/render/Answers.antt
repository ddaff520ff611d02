use Rattle.std.proofs.lemmas.Result.{err_from_is_err_and, MatchResult-weaker}
use Rattle.lrc_report.specs.ReportText.{report_journal_text}
use Rattle.lrc_report.proofs.AppendsThrough.{appends_through_front_first, appends_through_pending_longer, appends_through_all, appends_through_front, appends_through_some, appends_through_then}
use Rattle.lrc_report.proofs.render.render.Goals as goal

pub returns-in_err-render_report_summary : goal.returns-in_err-render_report_summary
returns-in_err-render_report_summary g c =
    let p = err_from_is_err_and c.from_residual.result c.from_residual.ensures.1 in
    rw p.1 (appends_through_front_first _ _ _ _ c.new-pending.ensures
    (appends_through_pending_longer _ _ _ _ (report_journal_text c.args.report.now c.args.journal) c.in_err-render_report_summary.ensures))

pub returns-in_err-render_report_journal : goal.returns-in_err-render_report_journal
returns-in_err-render_report_journal g c =
    let p = err_from_is_err_and c.from_residual-in_err-render_report_journal.result
    c.from_residual-in_err-render_report_journal.ensures.1 in
    rw p.1 (appends_through_front_first _ _ _ _ c.new-pending.ensures
    (appends_through_front _ (g.W.Write.contents c.render_report_summary.new.out) _ _ c.render_report_summary.new.pending
    _ _ c.in_ok-render_report_summary.ensures c.in_err-render_report_journal.ensures))

pub returns : goal.returns
returns g c =
    let both = appends_through_then c.in_ok-render_report_summary.ensures c.in_ok-render_report_journal.ensures in
    MatchResult-weaker c.finish.result c.finish.ensures
    (λ _ last. appends_through_all _ (g.W.Write.contents c.render_report_journal.new.out) _ _ c.render_report_journal.new.pending
    _ c.new-pending.ensures both last)
    (λ _ last. appends_through_some _ (g.W.Write.contents c.render_report_journal.new.out) _ _ c.render_report_journal.new.pending
    _ c.new-pending.ensures both last)
