use Rattle.std.proofs.Common.{ℕ, ◌+◌, length, subst, sym, ap, arith}
use Rattle.std.proofs.lemmas.List.{take_all}
use Rattle.std.specs.Global.{Vec}
use Rattle.journal.specs.Events.{event_count, event_departs}
use Rattle.causes.specs.FinalWaits.{AreThoseInFinalWait, FinalWaitForAbsent}
use Rattle.causes.proofs.StandingWaits.{standing_wait_those_next, standing_wait_those_others}
use Rattle.causes.proofs.waits_at_end.final_wait_absent.Goals as goal
use Rattle.causes.proofs.waits_at_end.final_wait_absent.Goals.{then-final_wait_arrivals-departed+in_ok-push, else-final_wait_arrivals-departed}

pub loop-processor-preserved : goal.loop-processor-preserved
loop-processor-preserved c =
    let events = c.args.events.now in
    let n = c.loop-processor.processor in
    let P : ℕ → Type 0 = FinalWaitForAbsent events c.args.by in
    let old = c.loop-processor.invariant in
    let absent = c.loop-processor.absent.items in
    let whole = ap (λ xs. event_count event_departs xs c.args.by) (take_all (length events) events (omega arith)) in
    let departed = c.edge_departures_before-departed.ensures in
    let arrived = c.final_wait_arrivals.ensures in
    elim c.if-final_wait_arrivals-departed.branch [
      | then-final_wait_arrivals-departed+in_ok-push w ↦
          (let le = w.if-final_wait_arrivals-departed.true in
          let now : FinalWaitForAbsent events c.args.by n = omega arith in
          subst (λ (v : Vec ℕ). AreThoseInFinalWait P (n + 1) v.items) (sym w.absent-is)
          (subst (AreThoseInFinalWait P (n + 1)) (sym w.in_ok-push.ensures.items) (standing_wait_those_next P n absent now old)))
      | else-final_wait_arrivals-departed w ↦
          (let lt = w.if-final_wait_arrivals-departed.false in
          let away : ¬ FinalWaitForAbsent events c.args.by n = λ le. absurd (omega arith) in
          subst (λ (v : Vec ℕ). AreThoseInFinalWait P (n + 1) v.items) (sym w.absent-is) (standing_wait_those_others P n absent away old))
    ]
