use Rattle.std.proofs.Common.{◌≡◌, ℕ, ◌+◌, false, subst, sym, ◌∙◌, arith}
use Rattle.std.specs.Global.{Vec}
use Rattle.std.proofs.lemmas.Bool.{false≢true}
use Rattle.journal.specs.WellFormed.{Holds}
use Rattle.judge.proofs.VecItems.{vec_item_read}
use Rattle.causes.specs.FinalWaits.{AreThoseInFinalWait}
use Rattle.causes.proofs.StandingWaits.{standing_wait_those_next, standing_wait_those_others}
use Rattle.causes.proofs.lock_holders.locks_of_holder.Goals as goal
use Rattle.causes.proofs.lock_holders.locks_of_holder.Goals.{then-index+in_ok-push, else-index}

pub loop-lock-preserved : goal.loop-lock-preserved
loop-lock-preserved c =
    let n = c.loop-lock.lock in
    let P : ℕ → Type 0 = Holds c.args.events.now c.args.by in
    let old = c.loop-lock.invariant in
    let held = c.loop-lock.held.items in
    let marks = c.in_ok-marks.marks in
    let long = c.in_ok-marks.ensures.long in
    let lt = c.loop-lock-test.true in
    let mark = vec_item_read marks.items n c.index.result.now false (omega (arith, marks.ok.0)) c.index.ensures in
    let is = c.in_ok-marks.ensures.marks n lt in
    elim c.if-index.branch [
      | then-index+in_ok-push w ↦
          subst (λ (v : Vec ℕ). AreThoseInFinalWait P (n + 1) v.items) (sym w.held-is)
          (subst (AreThoseInFinalWait P (n + 1)) (sym w.in_ok-push.ensures.items)
          (standing_wait_those_next P n held (is.0 (mark ∙ w.if-index.true)) old))
      | else-index w ↦
          subst (λ (v : Vec ℕ). AreThoseInFinalWait P (n + 1) v.items) (sym w.held-is)
          (standing_wait_those_others P n held (λ holds. false≢true (sym w.if-index.false ∙ (sym mark ∙ is.1 holds))) old)
    ]

pub returns : goal.returns
returns c =
    let end : c.loop-lock.lock ≡ c.args.locks =
    (let over = c.loop-lock-test.false in let top = c.loop-lock.auto.lock-end in omega arith) in
    subst (λ n. AreThoseInFinalWait (Holds c.args.events.now c.args.by) n c.loop-lock.held.items) end c.loop-lock.invariant
