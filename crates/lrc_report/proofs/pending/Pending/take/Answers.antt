use Rattle.std.proofs.lemmas.Result.{err_from_is_err_and, MatchResult-weaker}
use Rattle.lrc_report.proofs.AppendsThrough.{appends_through_front_then, appends_through_front_longer, appends_through_written}
use Rattle.lrc_report.proofs.pending.Pending.take.Goals as goal

pub returns-in_err-flush : goal.returns-in_err-flush
returns-in_err-flush g c =
    let p = err_from_is_err_and c.from_residual.result c.from_residual.ensures.1 in
    rw p.1 (appends_through_front_longer _ _ _ c.args.bytes.now c.in_err-flush.ensures.writes)

pub returns : goal.returns
returns g c =
    let first = c.in_ok-flush.ensures.writes in
    MatchResult-weaker c.write_bytes.result c.write_bytes.ensures
    (λ _ last. appends_through_written _ (g.W.Write.contents c.flush.new.out) _ _ _ _ c.in_ok-flush.ensures.none first last)
    (λ _ last. appends_through_front_then _ (g.W.Write.contents c.flush.new.out) _ _ _ first last)
