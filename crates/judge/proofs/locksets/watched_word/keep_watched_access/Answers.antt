use Rattle.std.proofs.Common.{◌∷◌, [], ◌++◌, length, slice_set, subst, sym, refl, arith}
use Rattle.std.proofs.lemmas.Option.{slice_get_read}
use Rattle.judge.specs.Locksets.Watched.{IsWatchedKept}
use Rattle.judge.proofs.locksets.KeptAccesses.{kept_accesses_push, kept_accesses_set}
use Rattle.judge.proofs.locksets.watched_word.keep_watched_access.Goals as goal

pub returns-then-are_watched_alike : goal.returns-then-are_watched_alike
returns-then-are_watched_alike c =
    let xs = c.loop-index.accesses.items in
    let i = c.loop-index.index in
    let y = c.args.access in
    subst (λ before. IsWatchedKept before y (slice_set xs i y)) c.loop-index.invariant
    (kept_accesses_set xs i c.index.result.now y
    (slice_get_read xs (length xs) i c.index.result.now refl (omega arith) c.index.ensures)
    (c.are_watched_alike.ensures.0 c.if-are_watched_alike.true))

pub returns : goal.returns
returns c =
    let y = c.args.access in
    subst (IsWatchedKept c.args.accesses.now.items y) (sym c.in_ok-push.ensures.items)
    (subst (λ before. IsWatchedKept before y (c.loop-index.accesses.items ++ y ∷ [])) c.loop-index.invariant
    (kept_accesses_push c.loop-index.accesses.items y))
