use Rattle.std.proofs.Common.{arith}
use Rattle.lrc_pages.proofs.ToldPages.{first_told_within, next_told}
use Rattle.lrc_pages.proofs.top_pages.next_most_fetched.Goals as goal

pub returns-clause-within : goal.returns-clause-within
returns-clause-within c =
    let over = c.loop-page-test.false in
    let auto = c.loop-page.auto in
    first_told_within _ c.args.last c.loop-page.page _ c.loop-page.best (omega arith) c.loop-page.invariant

pub returns-clause-next : goal.returns-clause-next
returns-clause-next c = next_told c.args.fetches.now c.args.last c.loop-page.best c.loop-page.page c.loop-page-test.false c.loop-page.invariant
