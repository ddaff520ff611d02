use Rattle.std.proofs.Common.{length, slice_index, refl, arith}
use Rattle.std.proofs.lemmas.Option.{slice_get_read, slice_get_within}
use Rattle.judge.specs.Locksets.Held.{HeldLocksShare}
use Rattle.judge.specs.Locksets.Watched.{AreWatchedRacing}
use Rattle.judge.proofs.locksets.KeptAccesses.{kept_accesses_next}
use Rattle.judge.proofs.locksets.watched_word.watched_word_first_guarded.Goals as goal
use Rattle.judge.proofs.locksets.watched_word.watched_word_first_guarded.Goals.{then-are_watched_racing+in_default, else-are_watched_racing}

pub returns-in-Some : goal.returns-in-Some
returns-in-Some c =
    let xs = c.args.accesses.now in
    let i = c.loop-access.access-index in
    record {
      access = c.access-item.result;
      has = (i, slice_get_read xs (length xs) i c.access-item.result refl (omega arith) c.access-item.is);
      needs = c.are_watched_racing.ensures.0 c.if-are_watched_racing.true;
      shares = c.in-Some.ensures.some;
      first = c.paired.ensures;
      second = c.paired-in-Some.ensures;
    }

pub loop-access-preserved : goal.loop-access-preserved
loop-access-preserved c =
    let xs = c.args.accesses.now in
    let i = c.loop-access.access-index in
    let y = c.args.later.now in
    let t = slice_index c.args.cut.now in
    λ k z m lt there. kept_accesses_next (λ w. AreWatchedRacing w y t → ¬ HeldLocksShare w.held y.held m) xs i
    c.access-item.result (slice_get_read xs (length xs) i c.access-item.result refl (omega arith) c.access-item.is)
    (λ k z lt there. c.loop-access.invariant k z m lt there)
    (elim c.if-are_watched_racing.branch [
      | then-are_watched_racing+in_default w ↦ λ needs. w.in_default.ensures.none m
      | else-are_watched_racing w ↦ λ needs. absurd (cc (w.if-are_watched_racing.false, c.are_watched_racing.ensures.1 needs))
    ])
    k z lt there

pub returns : goal.returns
returns c = λ x l has.
    let lt = slice_get_within c.args.accesses.now has.0 x has.1 in
    c.loop-access.invariant has.0 x l (omega arith) has.1
