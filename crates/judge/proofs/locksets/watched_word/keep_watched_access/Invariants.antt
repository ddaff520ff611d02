use Rattle.std.proofs.Common.{◌≡◌}
use Rattle.judge.proofs.locksets.watched_word.keep_watched_access.Given as goal

abbrev pub invariant-loop-index : goal.invariant-loop-index
invariant-loop-index l = l.accesses.items ≡ l.fn.accesses.items
