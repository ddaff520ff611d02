use Rattle.std.proofs.Common.{ℕ, ◌+◌, subst, sym, refl}
use Rattle.std.specs.Global.{Vec}
use Rattle.std.proofs.lemmas.Bool.{false≢true}
use Rattle.causes.specs.FinalWaits.{AreThoseInFinalWait, FinalWaitAsksBefore}
use Rattle.causes.proofs.StandingWaits.{standing_wait_those_next, standing_wait_those_others}
use Rattle.causes.proofs.waits_at_end.final_wait_earlier_asks.Goals as goal
use Rattle.causes.proofs.waits_at_end.final_wait_earlier_asks.Goals.{then-final_wait_asks_before+in_ok-push, else-final_wait_asks_before}

pub loop-processor-preserved : goal.loop-processor-preserved
loop-processor-preserved c =
    let events = c.args.events.now in
    let n = c.loop-processor.processor in
    let P : ℕ → Type 0 = FinalWaitAsksBefore events c.args.lock c.args.place in
    let old = c.loop-processor.invariant in
    let earlier = c.loop-processor.earlier.items in
    elim c.if-final_wait_asks_before.branch [
      | then-final_wait_asks_before+in_ok-push w ↦
          subst (λ (v : Vec ℕ). AreThoseInFinalWait P (n + 1) v.items) (sym w.earlier-is)
          (subst (AreThoseInFinalWait P (n + 1)) (sym w.in_ok-push.ensures.items)
          (standing_wait_those_next P n earlier (w.if-final_wait_asks_before.ensures.0 refl) old))
      | else-final_wait_asks_before w ↦
          subst (λ (v : Vec ℕ). AreThoseInFinalWait P (n + 1) v.items) (sym w.earlier-is)
          (standing_wait_those_others P n earlier (λ asks. false≢true (w.if-final_wait_asks_before.ensures.1 asks)) old)
    ]
