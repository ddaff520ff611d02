use Rattle.std.proofs.lemmas.Result.{err_from_is_err_and, MatchResult-weaker}
use Rattle.lrc_report.specs.ReportText.{report_verdict_text, report_traffic_text}
use Rattle.lrc_report.proofs.AppendsThrough.{appends_through_then, appends_through_front, appends_through_pending_longer}
use Rattle.lrc_report.proofs.render.render_report_summary.Goals as goal

pub returns-in_err-render_report_words : goal.returns-in_err-render_report_words
returns-in_err-render_report_words g c =
    let p = err_from_is_err_and c.from_residual.result c.from_residual.ensures.1 in
    let words = rw c.deref.ensures.value at c.in_err-render_report_words.ensures in
    rw p.1 (appends_through_pending_longer _ _ _ _ (report_traffic_text c.args.report.now.traffic)
    (appends_through_pending_longer _ _ _ _ (report_verdict_text c.args.report.now.racy) words))

pub returns-in_err-render_report_verdict : goal.returns-in_err-render_report_verdict
returns-in_err-render_report_verdict g c =
    let p = err_from_is_err_and c.from_residual-in_err-render_report_verdict.result
    c.from_residual-in_err-render_report_verdict.ensures.1 in
    let words = rw c.deref.ensures.value at c.in_ok-render_report_words.ensures in
    rw p.1 (appends_through_pending_longer _ _ _ _ (report_traffic_text c.args.report.now.traffic)
    (appends_through_front _ (g.W.Write.contents c.render_report_words.new.out) _ _ c.render_report_words.new.pending _ _ words
    c.in_err-render_report_verdict.ensures))

pub returns : goal.returns
returns g c =
    let words = rw c.deref.ensures.value at c.in_ok-render_report_words.ensures in
    let both = appends_through_then words
    c.in_ok-render_report_verdict.ensures in
    MatchResult-weaker c.render_report_traffic.result c.render_report_traffic.ensures
    (λ _ last. appends_through_then both last)
    (λ _ last. appends_through_front _ (g.W.Write.contents c.render_report_verdict.new.out) _ _ c.render_report_verdict.new.pending _ _ both
    last)
