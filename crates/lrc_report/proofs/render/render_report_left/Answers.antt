use Rattle.std.proofs.Common.{◌≡◌, ◌∙◌, ap, take}
use Rattle.std.proofs.Math.Seq.{take-length}
use Rattle.std.proofs.lemmas.Result.{err_from_is_err_and, MatchResult-weaker}
use Rattle.lrc_report.specs.ReportText.{report_events_text}
use Rattle.lrc_report.proofs.AppendsThrough.{appends_through_then, appends_through_front, appends_through_pending_longer}
use Rattle.lrc_report.proofs.render.render_report_left.Goals as goal

pub returns-in_err-render_report_cut : goal.returns-in_err-render_report_cut
returns-in_err-render_report_cut g c =
    let p = err_from_is_err_and c.from_residual.result c.from_residual.ensures.1 in
    let j = c.args.journal.now in
    let cut = rw c.cut_events-cut.ensures.value at c.in_err-render_report_cut.ensures in
    rw p.1 (appends_through_pending_longer _ _ _ _ (report_events_text j.base.cut j.events) cut)

pub returns : goal.returns
returns g c =
    let events = c.args.journal.now.events in
    let all : take c.len.result events ≡ events = ap (λ n. take n events) c.len.ensures.value ∙ take-length events in
    let cut = rw c.cut_events-cut.ensures.value at c.in_ok-render_report_cut.ensures in
    let lines = rw (c.cut_events-cut.ensures.value, all) at (rw c.events.ensures.value at c.render_report_events.ensures) in
    MatchResult-weaker c.render_report_events.result lines
    (λ _ last. appends_through_then cut last)
    (λ _ last. appends_through_front _ (g.W.Write.contents c.render_report_cut.new.out) _ _ c.render_report_cut.new.pending _ _ cut last)
