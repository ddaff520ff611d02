use Rattle.std.proofs.Common.{◌≡◌, ℕ, ◌<◌, List, Option, slice_index_or, subst, sym, vec_len, ◌∙◌, arith}
use Rattle.std.specs.Prelude.{None}
use Rattle.std.proofs.lemmas.Option.{none-some}
use Rattle.journal.specs.declared.event.Event.{Event}
use Rattle.journal.specs.declared.event.Kind.TheVariants.{Acquire}
use Rattle.journal.specs.DidEvent.{event}
use Rattle.journal.specs.WellFormed.{Holds}
use Rattle.judge.specs.declared.frontier.Frontier.{Frontier}
use Rattle.judge.specs.declared.why.Why.TheVariants.{AskedEarlier}
use Rattle.judge.specs.LaxWellFormed.{MayFollowOrLax}
use Rattle.judge.specs.JudgedSizes.{judged_sizes_of}
use Rattle.judge.specs.FrontTells.{FrontTellsFirstAsk, FrontTellsHistory}
use Rattle.judge.specs.Why.{IsFirstTrueWhy}
use Rattle.judge.proofs.VecItems.{vec_item_read}
use Rattle.judge.proofs.Verdicts.{verdict_behind, verdict_granted, verdict_granted_lax, verdict_held_by, verdict_may_waits, verdict_some_ask}
use Rattle.judge.proofs.frontier.Frontier.not_granted.Goals as goal

-- nobody holds a lock of which no holder is kept
nobody : (j : List Event) (x : Frontier) (l : ℕ) → FrontTellsHistory j x → slice_index_or x.holders.items l None ≡ None
    → (q : ℕ) → ¬ Holds j q l
nobody j x l tells none q holds = none-some q (sym none ∙ (tells.holders l q).1 holds)

-- what is read of the holders is who holds the lock
holder_read : (x : Frontier) (l : ℕ) {o : Option ℕ} → l < vec_len x.holders → o ≡ slice_index_or x.holders.items l o
    → slice_index_or x.holders.items l None ≡ o
holder_read x l {o = o} lt read = vec_item_read x.holders.items l o None (omega (arith, lt, x.holders.ok.0)) read

pub returns-in-Some : goal.returns-in-Some
returns-in-Some c = λ j tells turn may.
    verdict_held_by c.args.lax (judged_sizes_of c.args.self.now.sizes) j c.args.processor c.args.lock c.in-Some.holder turn may
    ((tells.holders c.args.lock c.in-Some.holder).0 (holder_read c.args.self.now c.args.lock c.requires.lock c.index.ensures ∙ c.in-Some.is))

pub returns-then-lax : goal.returns-then-lax
returns-then-lax c = λ j tells turn may.
    let s = judged_sizes_of c.args.self.now.sizes in
    let p = c.args.processor in
    let l = c.args.lock in
    subst (λ b. MayFollowOrLax b s j (event p (Acquire l))) (sym c.if-lax.true)
    (verdict_granted_lax s j p l turn (nobody j c.args.self.now l tells (holder_read c.args.self.now l c.requires.lock c.index.ensures ∙ c.in_default.is)))

pub returns-in_err-first : goal.returns-in_err-first
returns-in_err-first c = λ j tells turn may.
    let s = judged_sizes_of c.args.self.now.sizes in
    let p = c.args.processor in
    let l = c.args.lock in
    absurd (verdict_some_ask s j p l turn (verdict_may_waits c.args.lax j p (Acquire l) c.if-lax.false may) (nobody j c.args.self.now l tells (holder_read c.args.self.now l c.requires.lock c.index.ensures ∙ c.in_default.is))
    (c.in_err-first.ensures j tells))

pub returns-then-first-processor : goal.returns-then-first-processor
returns-then-first-processor c = λ j tells turn may.
    let s = judged_sizes_of c.args.self.now.sizes in
    let p = c.args.processor in
    let l = c.args.lock in
    let first = c.in_ok-first.ensures j tells in
    subst (λ b. MayFollowOrLax b s j (event p (Acquire l))) (sym c.if-lax.false)
    (verdict_granted s j p l turn (verdict_may_waits c.args.lax j p (Acquire l) c.if-lax.false may) (nobody j c.args.self.now l tells (holder_read c.args.self.now l c.requires.lock c.index.ensures ∙ c.in_default.is)) c.in_ok-first.place
    (subst (λ q. FrontTellsFirstAsk j l q c.in_ok-first.place) c.if-first-processor.true first))

pub returns-else-first-processor : goal.returns-else-first-processor
returns-else-first-processor c = λ j tells turn may.
    let s = judged_sizes_of c.args.self.now.sizes in
    let p = c.args.processor in
    let l = c.args.lock in
    let q = c.in_ok-first.first in
    let i = c.in_ok-first.place in
    subst (λ b. IsFirstTrueWhy b s j (event p (Acquire l)) (AskedEarlier q i)) (sym c.if-lax.false)
    (verdict_behind s j p l turn (verdict_may_waits c.args.lax j p (Acquire l) c.if-lax.false may) (nobody j c.args.self.now l tells (holder_read c.args.self.now l c.requires.lock c.index.ensures ∙ c.in_default.is)) q i c.if-first-processor.false
    (c.in_ok-first.ensures j tells))
