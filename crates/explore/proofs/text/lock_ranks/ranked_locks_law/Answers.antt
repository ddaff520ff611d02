use Rattle.explore.proofs.RankedLocks.RankedLocks.{ranked_locks_law}
use Rattle.explore.proofs.text.lock_ranks.ranked_locks_law.Goals as goal

pub returns : goal.returns
returns c = ranked_locks_law
