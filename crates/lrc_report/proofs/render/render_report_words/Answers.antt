use Rattle.std.proofs.lemmas.Option.{slice_get-get_or}
use Rattle.std.proofs.lemmas.Result.{err_from_is_err_and}
use Rattle.lrc_report.specs.ReportText.{report_word_text}
use Rattle.lrc_report.proofs.AppendsThrough.{appends_through_items_front, appends_through_items_next}
use Rattle.lrc_report.proofs.render.render_report_words.Goals as goal

pub returns-in_err-render_report_word : goal.returns-in_err-render_report_word
returns-in_err-render_report_word g c =
    let p = err_from_is_err_and c.from_residual.result c.from_residual.ensures.1 in
    let at = slice_get-get_or c.args.shown.now c.loop-address.address-index _ c.loop-address-test.true in
    rw p.1 (appends_through_items_front report_word_text c.args.shown.now c.loop-address.address-index _ at c.loop-address.invariant
    c.in_err-render_report_word.ensures)

pub loop-address-preserved : goal.loop-address-preserved
loop-address-preserved g c =
    let at = slice_get-get_or c.args.shown.now c.loop-address.address-index _ c.loop-address-test.true in
    appends_through_items_next report_word_text c.args.shown.now c.loop-address.address-index at c.loop-address.invariant c.in_ok-render_report_word.ensures
