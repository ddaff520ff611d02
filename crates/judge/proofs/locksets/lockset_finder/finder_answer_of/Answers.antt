use Rattle.std.proofs.Common.{◌≡◌, ℕ, List, Option, length, refl, subst, sym, ap}
use Rattle.std.specs.Prelude.{None, MatchOption}
use Rattle.journal.specs.declared.event.Event.{Event}
use Rattle.judge.specs.declared.locksets.lockset_finder.Unprotected.{Unprotected}
use Rattle.judge.specs.SparseTables.{sparse_at, sparse_table_value}
use Rattle.judge.specs.Locksets.Pairs.{IsUnguardedPair, PairsLeaveUnprotected}
use Rattle.judge.proofs.LongerSparseTables.{longer_sparse_read}
use Rattle.judge.proofs.locksets.TellingLocksets.{telling_locksets_left, telling_locksets_none_unguarded, telling_locksets_unwatched, telling_locksets_word_kept, telling_locksets_word_unkept}
use Rattle.judge.proofs.locksets.lockset_finder.finder_answer_of.Goals as goal

-- nothing is found
nothing : (j : List Event) (a : ℕ) (o : Option Unprotected) → o ≡ None → ((i k : ℕ) → ¬ IsUnguardedPair j a i k)
    → MatchOption o ((i k : ℕ) → ¬ IsUnguardedPair j a i k) (λ (x : Unprotected). PairsLeaveUnprotected j x × (x.address ≡ a))
nothing j a o is none =
    subst (λ p. MatchOption p ((i k : ℕ) → ¬ IsUnguardedPair j a i k)
    (λ (x : Unprotected). PairsLeaveUnprotected j x × (x.address ≡ a))) (sym is) none

pub returns-in_err-place : goal.returns-in_err-place
returns-in_err-place c = λ j tells.
    let words = c.args.words.now in
    nothing j c.args.address c.from_residual.result c.from_residual.ensures
    (λ i k is. telling_locksets_unwatched j c.args.address
    (telling_locksets_word_unkept j (length j) (sparse_at words) (ap (sparse_table_value words.kept.items) c.in_err-place.ensures) tells)
    i k is.needs)

pub returns-in_err-unguarded : goal.returns-in_err-unguarded
returns-in_err-unguarded c = λ j tells.
    let words = c.args.words.now in
    let a = c.args.address in
    let w = c.index-word.result.now in
    nothing j a c.from_residual-in_err-unguarded.result c.from_residual-in_err-unguarded.ensures
    (telling_locksets_none_unguarded j a w c.in_err-unguarded.was
    (telling_locksets_word_kept (sparse_at words) (longer_sparse_read words a c.in_ok-place.field-0 w c.requires c.in_ok-place.ensures c.index-word.ensures) tells))

pub returns : goal.returns
returns c = λ j tells.
    let words = c.args.words.now in
    let a = c.args.address in
    let w = c.index-word.result.now in (
      telling_locksets_left j a w c.in_ok-unguarded.unguarded c.in_ok-unguarded.was
          (telling_locksets_word_kept (sparse_at words) (longer_sparse_read words a c.in_ok-place.field-0 w c.requires c.in_ok-place.ensures c.index-word.ensures) tells),
      refl,
    )
