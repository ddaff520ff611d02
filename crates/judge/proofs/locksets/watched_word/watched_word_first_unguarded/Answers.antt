use Rattle.std.proofs.Common.{◌≡◌, ◌∙◌, ℕ, Some, true, false, not, ap, length, slice_index, refl, arith}
use Rattle.std.specs.Prelude.{Option, None, IfNone, IfSome, is_some}
use Rattle.std.proofs.lemmas.Option.{slice_get_read, slice_get_within}
use Rattle.judge.specs.Locksets.Held.{HeldLocksShare}
use Rattle.judge.specs.Locksets.Watched.{AreWatchedRacing}
use Rattle.judge.proofs.locksets.KeptAccesses.{kept_accesses_next}
use Rattle.judge.proofs.locksets.watched_word.watched_word_first_unguarded.Goals as goal
use Rattle.judge.proofs.locksets.watched_word.watched_word_first_unguarded.Goals.{else-are_watched_racing-via-then-are_watched_racing+else-is_none, else-are_watched_racing-via-else-are_watched_racing}

-- what is known where there is none, and where there is one
none_there : (o : Option ℕ) (P : Type 0) → is_some o ≡ false → IfNone o P → P
none_there None P is none = none
none_there (Some l) P is none = absurd (cc is)

one_there : (o : Option ℕ) (P : ℕ → Type 0) → is_some o ≡ true → IfSome o P → (l : ℕ) × P l
one_there None P is some = absurd (cc is)
one_there (Some l) P is some = (l, some)

pub returns-then-is_none : goal.returns-then-is_none
returns-then-is_none c =
    let xs = c.args.accesses.now in
    let i = c.loop-access.access-index in
    record {
      access = c.access-item.result;
      has = (i, slice_get_read xs (length xs) i c.access-item.result refl (omega arith) c.access-item.is);
      needs = c.are_watched_racing.ensures.0 c.if-are_watched_racing.true;
      none = none_there c.common.result _ (c.is_none.ensures ∙ ap not c.if-is_none.true) c.common.ensures.none;
      first = c.paired.ensures;
      second = c.paired-then-is_none.ensures;
    }

pub loop-access-preserved : goal.loop-access-preserved
loop-access-preserved c =
    let xs = c.args.accesses.now in
    let i = c.loop-access.access-index in
    let y = c.args.later.now in
    let t = slice_index c.args.cut.now in
    kept_accesses_next (λ w. AreWatchedRacing w y t → (m : ℕ) × HeldLocksShare w.held y.held m) xs i
    c.access-item.result (slice_get_read xs (length xs) i c.access-item.result refl (omega arith) c.access-item.is) c.loop-access.invariant
    (elim c.else-are_watched_racing.branch [
      | else-are_watched_racing-via-then-are_watched_racing+else-is_none w ↦
          λ needs. one_there w.common.result _ (w.is_none.ensures ∙ ap not w.if-is_none.false) w.common.ensures.some
      | else-are_watched_racing-via-else-are_watched_racing w ↦ λ needs. absurd (cc (w.if-are_watched_racing.false, c.are_watched_racing.ensures.1 needs))
    ])

pub returns : goal.returns
returns c = λ x has.
    let lt = slice_get_within c.args.accesses.now has.0 x has.1 in
    c.loop-access.invariant has.0 x (omega arith) has.1
