use Rattle.std.proofs.Common.{sym, ◌∙◌}
use Rattle.judge.proofs.locksets.NeedingLocks.{needing_guarded_next, needing_guarded_none, needing_guarded_old}
use Rattle.judge.proofs.locksets.watched_word.WatchedWord.guarded_with.Goals as goal

pub returns-then-is_some : goal.returns-then-is_some
returns-then-is_some c = λ j a n tells comes.
    needing_guarded_old j a n c.args.self.now.guarded (sym c.is_some.ensures ∙ c.if-is_some.true) tells.guarded

pub returns : goal.returns
returns c = λ j a n tells comes.
    let found = rw c.deref.ensures.value at c.watched_word_first_guarded.ensures in
    needing_guarded_next c.watched_word_first_guarded.result comes tells.accesses
    (needing_guarded_none j a n c.args.self.now.guarded (sym c.is_some.ensures ∙ c.if-is_some.false) tells.guarded) found
