use Rattle.std.proofs.lemmas.Option.{slice_get-get_or}
use Rattle.std.proofs.lemmas.Result.{err_from_is_err_and}
use Rattle.lrc_report.proofs.ReportLines.{report_lines_through_front, report_lines_through_next}
use Rattle.lrc_report.proofs.render.render_report_events.Goals as goal

pub returns-in_err-take : goal.returns-in_err-take
returns-in_err-take g c =
    let p = err_from_is_err_and c.from_residual.result c.from_residual.ensures.1 in
    let at = slice_get-get_or c.args.events.now c.loop-index.index _ c.loop-index-test.true in
    let this = rw (c.bytes.ensures, c.render_report_event.ensures) at c.in_err-take.ensures in
    rw p.1 (report_lines_through_front c.args.first c.args.events.now c.loop-index.index _ at c.loop-index.invariant this)

pub loop-index-preserved : goal.loop-index-preserved
loop-index-preserved g c =
    let at = slice_get-get_or c.args.events.now c.loop-index.index _ c.loop-index-test.true in
    let this = rw (c.bytes.ensures, c.render_report_event.ensures) at c.in_ok-take.ensures in
    report_lines_through_next c.args.first c.args.events.now c.loop-index.index at c.loop-index.invariant this
