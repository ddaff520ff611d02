use Rattle.std.proofs.Common.{◌+◌, subst}
use Rattle.std.specs.Prelude.{Result, Ok, Err, OnOk}
use Rattle.judge.specs.Locksets.Watched.{AreWatchedStorers}
use Rattle.judge.proofs.locksets.WatchedWords.{watched_word_storers_few, watched_word_accesses_kept, watched_word_accesses_left}
use Rattle.judge.proofs.locksets.watched_word.WatchedWord.note.Goals as goal

-- what a fact of success gives, success gives
success : {E P Q : Type 0} (r : Result (Unit {0}) E) → (P → Q) → OnOk r P → OnOk r Q
success (Ok x) f p = f p
success (Err e) f p = tt

pub returns-in-Several : goal.returns-in-Several
returns-in-Several c = success c.keep_watched_access.result
    (λ kept j a n tells comes.
    (let storers = c.with-self.ensures j a n tells.storers comes.access in
    record {
      storers = storers;
      accesses = watched_word_accesses_kept j a n c.args.self.now.accesses.items c.keep_watched_access.new.accesses.items c.args.access comes.access
          (subst (AreWatchedStorers j a (n + 1)) c.in-Several.is storers) kept tells.accesses;
      unguarded = c.unguarded_with-unguarded.ensures j a n tells comes;
      guarded = c.guarded_with-guarded.ensures j a n tells comes;
    })) c.keep_watched_access.ensures

pub returns-in_default : goal.returns-in_default
returns-in_default c = λ j a n tells comes.
    let storers = c.with-self.ensures j a n tells.storers comes.access in
    record {
      storers = storers;
      accesses = watched_word_accesses_left j a n c.args.self.now.accesses.items
          (λ q k does is seen. watched_word_storers_few j a (n + 1) c.with-self.result c.in_default.not-Several storers seen) tells.accesses;
      unguarded = c.unguarded_with-unguarded.ensures j a n tells comes;
      guarded = c.guarded_with-guarded.ensures j a n tells comes;
    }
