use Rattle.std.proofs.Common.{ℕ, List, length, subst, sym, ap, arith}
use Rattle.std.specs.Prelude.{MatchOption, Option}
use Rattle.std.proofs.lemmas.List.{take_all}
use Rattle.journal.specs.declared.event.Event.{Event}
use Rattle.judge.specs.declared.locksets.lockset_finder.LocksetFinder.{LocksetFinder}
use Rattle.judge.specs.declared.locksets.watched_word.Guarded.{Guarded}
use Rattle.judge.specs.SparseTables.{sparse_at, sparse_table_value}
use Rattle.judge.specs.Locksets.KeptLocksets.{AreKeptLocksetWords, IsLocksetFinderOf}
use Rattle.judge.specs.Locksets.Pairs.{IsGuardedPair, TellsGuardedPair}
use Rattle.judge.proofs.LongerSparseTables.{longer_sparse_read}
use Rattle.judge.proofs.locksets.TellingLocksets.{telling_locksets_guarded, telling_locksets_unwatched, telling_locksets_word_kept, telling_locksets_word_unkept}
use Rattle.judge.proofs.locksets.lockset_finder.LocksetFinder.guarded.Goals as goal

-- what is kept of all words tells the history itself
words_of : (x : LocksetFinder) (j : List Event) → IsLocksetFinderOf j x → AreKeptLocksetWords j (length j) (sparse_at x.words)
words_of x j tells = tells.words j (take_all (length j) j (omega arith))

pub returns-in_err-place : goal.returns-in_err-place
returns-in_err-place c = λ j tells.
    let x = c.args.self.now in
    let a = c.args.address in
    subst (λ (o : Option Guarded). MatchOption o ((i k l : ℕ) → ¬ IsGuardedPair j a i k l) (TellsGuardedPair j a)) (sym c.from_residual.ensures)
    (λ i k l is. telling_locksets_unwatched j a
    (telling_locksets_word_unkept j (length j) (sparse_at x.words) (ap (sparse_table_value x.words.kept.items) c.in_err-place.ensures) (words_of x j tells))
    i k is.needs)

pub returns : goal.returns
returns c = λ j tells.
    let x = c.args.self.now in
    let a = c.args.address in
    let w = c.index-word.result.now in
    let kept = longer_sparse_read x.words a c.in_ok-place.field-0 w tells.sparse.sparse c.in_ok-place.ensures c.index-word.ensures in
    telling_locksets_guarded j a w.guarded (telling_locksets_word_kept (sparse_at x.words) kept (words_of x j tells)).guarded
