use Rattle.lrc_check.proofs.HistoryNext.{history_next_kept, history_next_read}
use Rattle.lrc_check.proofs.history_judge.HistoryJudge.goes_on.Goals as goal

pub keep-requires : goal.keep-requires
keep-requires c =
    let x = c.args.self.now in
    let j = c.requires.next.0 in
    let next = c.requires.next.1 in
    let goes = c.in_ok-goes_on.ensures in
    let now = goes.judged c.if-not-branch.false j (history_next_read j x next) in
    record { next = (j, x.judge, history_next_kept c.args.event next now goes.model goes.lax goes.sizes goes.racing (goes.unraced c.if-not-branch.false)) }

pub returns-clause-judged : goal.returns-clause-judged
returns-clause-judged c = λ goes_on j next.
    let x = c.args.self.now in
    let goes = c.in_ok-goes_on.ensures in
    let now = goes.judged c.if-not-branch.false j (history_next_read j x next) in
    c.in_ok-keep.ensures.judged j x.judge (history_next_kept c.args.event next now goes.model goes.lax goes.sizes goes.racing (goes.unraced c.if-not-branch.false))
