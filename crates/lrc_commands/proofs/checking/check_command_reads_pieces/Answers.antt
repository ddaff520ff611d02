use Rattle.std.proofs.lemmas.Result.{err_from_is_err_and}
use Rattle.lrc_commands.proofs.JudgedSources.{judged_source_fed_no_more, judged_source_fed_none}
use Rattle.lrc_commands.proofs.checking.check_command_reads_pieces.Goals as goal

pub loop-total-init : goal.loop-total-init
loop-total-init g c = judged_source_fed_none _ c.new.result c.new.ensures.fed

pub loop-total-preserved : goal.loop-total-preserved
loop-total-preserved g c =
    c.check_command_feeds-reading.ensures _ _ _ c.loop-total.invariant c.in_ok-count.ensures.bytes

pub returns-in_err-count-clause-refused : goal.returns-in_err-count-clause-refused
returns-in_err-count-clause-refused g c =
    let p = err_from_is_err_and c.from_residual.result c.from_residual.ensures.1 in
    rw p.1 (λ its. absurd (p.2 its))

pub returns-in_err-finish-clause-refused : goal.returns-in_err-finish-clause-refused
returns-in_err-finish-clause-refused g c =
    let p = err_from_is_err_and c.from_residual-in_err-finish.result c.from_residual-in_err-finish.ensures.1 in
    rw p.1 (λ its. c.in_err-finish.ensures.refused (p.2.0 its) _ _
    (judged_source_fed_no_more _ _ _ _ _ _ c.if-count-eq0.true c.loop-total.invariant c.in_ok-count.ensures.bytes)
    (c.in_ok-count.ensures.end c.if-count-eq0.true))

pub returns-then-count-eq0-clause-text : goal.returns-then-count-eq0-clause-text
returns-then-count-eq0-clause-text g c =
    c.in_ok-finish.ensures.text _ _
    (judged_source_fed_no_more _ _ _ _ _ _ c.if-count-eq0.true c.loop-total.invariant c.in_ok-count.ensures.bytes)
    (c.in_ok-count.ensures.end c.if-count-eq0.true)
