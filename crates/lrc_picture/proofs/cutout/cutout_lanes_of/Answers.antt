use Rattle.std.proofs.Common.{◌≡◌, ℕ, ◌+◌, ◌<◌, Some, length, slice_get, slice_index_or, vec_len, ap, subst, sym, ◌∙◌, arith}
use Rattle.std.specs.Prelude.{false, true}
use Rattle.std.specs.Global.{Vec}
use Rattle.std.proofs.lemmas.Bool.{false≢true}
use Rattle.std.proofs.lemmas.Option.{same_Some, slice_get-get_or}
use Rattle.causes.specs.FinalWaits.{AreThoseInFinalWait}
use Rattle.causes.proofs.StandingWaits.{standing_wait_those_next, standing_wait_those_others}
use Rattle.lrc_picture.proofs.cutout.cutout_lanes_of.Goals as goal
use Rattle.lrc_picture.proofs.cutout.cutout_lanes_of.Goals.{then-part-processor+in_ok-push, else-part-processor}

pub loop-processor-preserved : goal.loop-processor-preserved
loop-processor-preserved c =
    let n = c.loop-processor.processor in
    let shown = c.args.part.now.processors in
    let P : ℕ → Type 0 = λ p. slice_get shown p ≡ Some true in
    let old = c.loop-processor.invariant in
    let few = old.few in
    let lanes = c.loop-processor.lanes.items in
    let lt = c.loop-processor-test.true in
    let most = c.requires in
    let within : n < length shown = grind arith in
    let there : slice_get shown n ≡ Some (slice_index_or shown n false) = slice_get-get_or shown n false within in
    record {
      lanes = elim c.if-part-processor.branch [
        | then-part-processor+in_ok-push w ↦
            subst (λ (v : Vec ℕ). AreThoseInFinalWait P (n + 1) v.items) (sym w.lanes-is)
            (subst (AreThoseInFinalWait P (n + 1)) (sym w.in_ok-push.ensures.items)
            (standing_wait_those_next P n lanes (there ∙ ap Some w.if-part-processor.true) old.lanes))
        | else-part-processor w ↦
            subst (λ (v : Vec ℕ). AreThoseInFinalWait P (n + 1) v.items) (sym w.lanes-is)
            (standing_wait_those_others P n lanes
            (λ is. false≢true (same_Some _ _ (sym (there ∙ ap Some w.if-part-processor.false) ∙ is))) old.lanes)
      ];
      few = elim c.if-part-processor.branch [
        | then-part-processor+in_ok-push w ↦
            (let len = w.in_ok-push.ensures.len in
            let is = ap (λ (v : Vec ℕ). vec_len v) w.lanes-is in
            omega arith)
        | else-part-processor w ↦ (let is = ap (λ (v : Vec ℕ). vec_len v) w.lanes-is in omega arith)
      ];
    }
