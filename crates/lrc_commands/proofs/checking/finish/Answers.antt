use Rattle.std.proofs.lemmas.Result.{err_from_is_err_and}
use Rattle.lrc_commands.proofs.JudgedSources.{judged_source_consumed_fully, judged_source_full_refused, judged_source_full_text, judged_source_no_trace}
use Rattle.lrc_commands.proofs.checking.finish.Goals as goal

pub returns-clause-text : goal.returns-clause-text
returns-clause-text c = λ source left so_far end.
    let had = rw c.in_ok-reader.was at so_far in
    judged_source_full_text c.args.unfinished source had.0 _ _ (judged_source_consumed_fully source left had.0 had.1 end)
    (c.in_ok-labelled.ensures.text had.0 had.2)

pub returns-in_err-labelled-clause-refused : goal.returns-in_err-labelled-clause-refused
returns-in_err-labelled-clause-refused c =
    let p = err_from_is_err_and c.from_residual-in_err-labelled.result c.from_residual-in_err-labelled.ensures.1 in
    rw p.1 (λ its source left so_far end.
    let had = rw c.in_ok-reader.was at so_far in
    judged_source_full_refused c.args.unfinished source had.0 (judged_source_consumed_fully source left had.0 had.1 end) (c.in_err-labelled.ensures.only had.0 had.2))

pub returns-in_err-reader-clause-refused : goal.returns-in_err-reader-clause-refused
returns-in_err-reader-clause-refused c =
    let p = err_from_is_err_and c.from_residual.result c.from_residual.ensures.1 in
    rw p.1 (λ its source left so_far end. judged_source_no_trace c.args.unfinished source ((rw c.in_err-reader.was at so_far) (p.2 its)))
