use Rattle.std.proofs.Common.{sym, ◌∙◌}
use Rattle.judge.proofs.locksets.NeedingLocks.{needing_unguarded_next, needing_unguarded_none, needing_unguarded_old}
use Rattle.judge.proofs.locksets.watched_word.WatchedWord.unguarded_with.Goals as goal

pub returns-then-is_some : goal.returns-then-is_some
returns-then-is_some c = λ j a n tells comes.
    needing_unguarded_old j a n c.args.self.now.unguarded (sym c.is_some.ensures ∙ c.if-is_some.true) tells.unguarded

pub returns : goal.returns
returns c = λ j a n tells comes.
    let found = rw c.deref.ensures.value at c.watched_word_first_unguarded.ensures in
    needing_unguarded_next c.watched_word_first_unguarded.result comes tells.accesses
    (needing_unguarded_none j a n c.args.self.now.unguarded (sym c.is_some.ensures ∙ c.if-is_some.false) tells.unguarded) found
