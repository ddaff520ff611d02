use Rattle.explore.proofs.RankedLocks.RankedLocks.{ranked_locks_law}
use Rattle.explore.proofs.search.whole_run.never_gets_stuck_by_text.Goals as goal

pub returns-then-ends : goal.returns-then-ends
returns-then-ends c = λ yes s lawful ended.
    let ranks = c.are_locks_ranked.ensures yes in
    let run = ended c.if-ends.true in
    ranked_locks_law s c.args.steps.now ranks.0 run.0 lawful ranks.1 run.1
