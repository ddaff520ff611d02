use Rattle.std.proofs.Common.{◌+◌, subst, sym, arith}
use Rattle.journal.specs.declared.event.Kind.TheVariants.{Store}
use Rattle.journal.specs.WellFormed.{Does}
use Rattle.judge.specs.Locksets.Watched.{AreWatchedStorers}
use Rattle.judge.proofs.locksets.WatchedWords.{watched_word_storers_first, watched_word_storers_left, watched_word_storers_of_access, watched_word_storers_of_load, watched_word_storers_same, watched_word_storers_second, watched_word_storers_longer}
use Rattle.judge.proofs.locksets.watched_word.WatchedStorers.with.Goals as goal

pub returns-then-not-access : goal.returns-then-not-access
returns-then-not-access c = λ j a n are is.
    watched_word_storers_left j a n c.args.self
    (watched_word_storers_of_load j a n c.args.access.now is c.if-not-access.true) are

pub returns-in-Nobody : goal.returns-in-Nobody
returns-in-Nobody c = λ j a n are is.
    let store = watched_word_storers_of_access j a n c.args.access.now is c.if-not-access.false in
    watched_word_storers_first j a n c.args.access.now.processor store.0 store.1 (subst (AreWatchedStorers j a n) c.in-Nobody.is are)

pub returns-then-first-access : goal.returns-then-first-access
returns-then-first-access c = λ j a n are is.
    let store = watched_word_storers_of_access j a n c.args.access.now is c.if-not-access.false in
    watched_word_storers_same j a n c.in-One.first store.0 (subst (λ p. Does j n p (Store a store.0)) (sym c.if-first-access.true) store.1)
    (subst (AreWatchedStorers j a n) c.in-One.is are)

pub returns-else-first-access : goal.returns-else-first-access
returns-else-first-access c = λ j a n are is.
    let store = watched_word_storers_of_access j a n c.args.access.now is c.if-not-access.false in
    watched_word_storers_second j a n c.args.access.now.processor c.in-One.first store.0 c.if-first-access.false store.1
    (subst (AreWatchedStorers j a n) c.in-One.is are)

pub returns-in-Several : goal.returns-in-Several
returns-in-Several c = λ j a n are is.
    subst (AreWatchedStorers j a (n + 1)) (sym c.in-Several.is)
    (watched_word_storers_longer (n + 1) (omega arith) (subst (AreWatchedStorers j a n) c.in-Several.is are))
