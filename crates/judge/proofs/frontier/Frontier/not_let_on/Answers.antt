use Rattle.std.proofs.Common.{◌≡◌, ◌<◌, ℕ, List, Some, false, length, subst, sym, ◌∙◌, arith}
use Rattle.std.specs.Prelude.{None}
use Rattle.std.proofs.lemmas.Bool.{false≢true}
use Rattle.journal.specs.declared.event.Event.{Event}
use Rattle.journal.specs.declared.event.Kind.TheVariants.{Acquire, Depart, Await}
use Rattle.journal.specs.WellFormed.{WellFormedKindInRange}
use Rattle.judge.specs.declared.frontier.Frontier.{Frontier}
use Rattle.judge.specs.declared.why.Why.TheVariants.{NotSet}
use Rattle.judge.specs.JudgedSizes.{judged_sizes_of}
use Rattle.judge.specs.FrontTells.{FrontTellsHistory}
use Rattle.judge.specs.Why.{WhyIsInTurn, WhyMayTake}
use Rattle.judge.proofs.VecItems.{vec_item_read}
use Rattle.judge.proofs.Verdicts.{verdict_awaits_set, verdict_by_kind, verdict_may_depart, verdict_may_takes, verdict_not_set, verdict_quiet_kind}
use Rattle.judge.proofs.frontier.Frontier.not_let_on.Goals as goal

-- a flag that is awaited in turn is one of those kept
within : (x : Frontier) (j : List Event) (e : Event) (f : ℕ) → FrontTellsHistory j x → WhyIsInTurn (judged_sizes_of x.sizes) j e
    → e.kind ≡ Await f → f < length x.flags.items
within x j e f tells turn is =
    let lt : f < x.sizes.flags = subst (WellFormedKindInRange (judged_sizes_of x.sizes)) is turn.in_range in
    let long = tells.long_flags in
    omega (arith, x.flags.ok.0)

pub returns-then-index : goal.returns-then-index
returns-then-index c = λ j tells turn may.
    let s = judged_sizes_of c.args.self.now.sizes in
    let e = c.args.event in
    let f = c.in-Await.flag in
    verdict_by_kind c.args.lax s j e (Await f) None c.in-Await.is turn
    (λ now. verdict_awaits_set c.args.lax s j e.processor f now (subst (WhyMayTake c.args.lax j e.processor) c.in-Await.is may)
    ((tells.flags f).0 (vec_item_read c.args.self.now.flags.items f c.index.result.now false (within c.args.self.now j c.args.event f tells turn c.in-Await.is) c.index.ensures ∙ c.if-index.true)))

pub returns-else-index : goal.returns-else-index
returns-else-index c = λ j tells turn may.
    let s = judged_sizes_of c.args.self.now.sizes in
    let e = c.args.event in
    let f = c.in-Await.flag in
    verdict_by_kind c.args.lax s j e (Await f) (Some NotSet) c.in-Await.is turn
    (λ now. verdict_not_set c.args.lax s j e.processor f now (subst (WhyMayTake c.args.lax j e.processor) c.in-Await.is may)
    (λ set. false≢true (sym (vec_item_read c.args.self.now.flags.items f c.index.result.now false (within c.args.self.now j c.args.event f tells turn c.in-Await.is) c.index.ensures ∙ c.if-index.false) ∙ (tells.flags f).1 set)))

pub returns-in_default : goal.returns-in_default
returns-in_default c = λ j tells turn may.
    let e = c.args.event in
    let not = c.in_default in
    absurd (false≢true (sym (verdict_quiet_kind e.kind not.not-Acquire not.not-Depart not.not-Await)
    ∙ verdict_may_takes c.args.lax j e.processor e.kind may))

pub returns-in-Acquire : goal.returns-in-Acquire
returns-in-Acquire c = λ j tells turn may.
    let s = judged_sizes_of c.args.self.now.sizes in
    let e = c.args.event in
    let l = c.in-Acquire.lock in
    verdict_by_kind c.args.lax s j e (Acquire l) c.not_granted.result c.in-Acquire.is turn
    (λ now. c.not_granted.ensures j tells now (subst (WhyMayTake c.args.lax j e.processor) c.in-Acquire.is may))

pub returns-in-Depart : goal.returns-in-Depart
returns-in-Depart c = λ j tells turn may.
    let s = judged_sizes_of c.args.self.now.sizes in
    let e = c.args.event in
    verdict_by_kind c.args.lax s j e Depart c.not_departed.result c.in-Depart.is turn
    (λ now. c.not_departed.ensures j tells now
    (verdict_may_depart c.args.lax j e.processor (subst (WhyMayTake c.args.lax j e.processor) c.in-Depart.is may)) c.args.lax)
