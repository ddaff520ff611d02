use Rattle.std.proofs.Common.{◌≡◌, false, true≢false, Option, Some}
use Rattle.std.specs.Prelude.{None, MatchOption, is_some}
use Rattle.judge.specs.JudgedSizes.{judged_sizes_of}
use Rattle.lrc_check.proofs.Accepting.{accepted_next_event}
use Rattle.lrc_check.proofs.LyingTraces.{lying_may_within}
use Rattle.lrc_check.proofs.trace_judge.TraceJudge.is_made.Goals as goal

-- what is said where nothing is there
not_there : {A : Type 0} (o : Option A) (P : Type 0) (Q : A → Type 0) → is_some o ≡ false → MatchOption o P Q → P
not_there None P Q none held = held
not_there (Some x) P Q none held = absurd (true≢false none)

pub is_paid-requires : goal.is_paid-requires
is_paid-requires c =
    let x = c.args.self.now in
    let s = judged_sizes_of x.sizes in
    let next = c.requires.1 in
    (x.model, s, c.requires.0, next.judged.owed, lying_may_within x.lax s c.requires.0 c.args.event next.follows)

pub miscounted-requires-clause-within : goal.miscounted-requires-clause-within
miscounted-requires-clause-within c =
    let x = c.args.self.now in
    let next = c.requires.1 in lying_may_within x.lax (judged_sizes_of x.sizes) c.requires.0 c.args.event next.follows

pub returns-in-None : goal.returns-in-None
returns-in-None c = λ is j next.
    let x = c.args.self.now in
    let s = judged_sizes_of x.sizes in
    let e = c.args.event in
    let judged = next.judged in
    let paid = c.is_paid.ensures x.model s j judged.owed (lying_may_within x.lax s j e next.follows) next.racy_is in
    accepted_next_event x.model x.lax s j e judged.faithful next.follows (paid.0 c.if-not-is_paid.false) (c.in-None.ensures j judged)

pub returns-then-is_none : goal.returns-then-is_none
returns-then-is_none c = λ is j next.
    let x = c.args.self.now in
    let s = judged_sizes_of x.sizes in
    let e = c.args.event in
    let judged = next.judged in
    let paid = c.is_paid.ensures x.model s j judged.owed (lying_may_within x.lax s j e next.follows) next.racy_is in
    let unjudged = not_there x.counts _ _ c.if-is_none.ensures judged.counts in
    accepted_next_event x.model x.lax s j e judged.faithful next.follows (paid.0 c.if-not-is_paid.false)
    (λ lazy exact. absurd (unjudged lazy exact))
