use Rattle.std.proofs.Common.{IsTrue, ◌↔◌, false, slice_index_or, subst, sym}
use Rattle.journal.specs.WellFormed.{WellFormedAllows}
use Rattle.judge.specs.Why.{WhyWaitsFor}
use Rattle.explore.proofs.Enabled.{enabled_acquire, enabled_await, enabled_depart, enabled_otherwise_unawaited}
use Rattle.explore.proofs.state.waits.Waiting.has_come.Goals as goal

pub returns-in-Acquire : goal.returns-in-Acquire
returns-in-Acquire c = λ s j many tells waits.
    let p = c.args.processor in
    let is = c.in-Acquire.is in
    subst (λ k. IsTrue c.may_acquire.result ↔ WellFormedAllows s j p k) (sym is)
    (enabled_acquire s j p c.in-Acquire.lock c.may_acquire.result (subst (WhyWaitsFor j p) is waits)
    (c.may_acquire.ensures j tells))

pub returns-in-Depart : goal.returns-in-Depart
returns-in-Depart c = λ s j many tells waits.
    let p = c.args.processor in
    let is = c.in-Depart.is in
    subst (λ k. IsTrue c.may_depart.result ↔ WellFormedAllows s j p k) (sym is)
    (enabled_depart s j p c.args.processors c.may_depart.result many (subst (WhyWaitsFor j p) is waits)
    (c.may_depart.ensures j tells (subst (WhyWaitsFor j p) is waits)))

pub returns-in-Await : goal.returns-in-Await
returns-in-Await c = λ s j many tells waits.
    let p = c.args.processor in
    let is = c.in-Await.is in
    let set = slice_index_or c.args.self.now.flags c.in-Await.flag false in
    subst (λ k. IsTrue set ↔ WellFormedAllows s j p k) (sym is)
    (enabled_await s j p c.in-Await.flag set (subst (WhyWaitsFor j p) is waits) (tells.flags c.in-Await.flag))

pub returns-in_default : goal.returns-in_default
returns-in_default c = λ s j many tells waits.
    let not = c.in_default in
    absurd (enabled_otherwise_unawaited j c.args.processor c.args.kind not.not-Acquire not.not-Depart not.not-Await waits)
