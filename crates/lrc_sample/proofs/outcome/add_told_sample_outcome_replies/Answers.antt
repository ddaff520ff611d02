use Rattle.std.proofs.Common.{◌≡◌, ◌∙◌, sym, ◌+◌, ◌-◌, ◌<◌, ◌++◌, ap, length, arith, drop}
use Rattle.lrc_sample.specs.SampleReplies.{sample_replies_marked}
use Rattle.lrc_sample.proofs.ToldReplies.{told_reply_kept, told_reply_left}
use Rattle.lrc_sample.proofs.outcome.add_told_sample_outcome_replies.Goals as goal
use Rattle.lrc_sample.proofs.outcome.add_told_sample_outcome_replies.Goals.{then-marks-place+in_ok-push, else-marks-place}

pub loop-place-preserved : goal.loop-place-preserved
loop-place-preserved c =
    let cut = c.saturating_sub-cut.result in
    let place = c.loop-place.place in
    let marks = c.args.marks.now in
    let own = c.args.own.now in
    let within : place < length marks = omega (arith, c.loop-place-test.true, c.loop-place.auto.place-end) in
    let there : place - cut < length own = omega (arith, within, c.loop-place.invariant.0, c.saturating_sub-cut.ensures) in
    let next : place - cut + 1 ≡ place + 1 - cut = omega (arith, c.loop-place.invariant.0) in
    let later = ap (λ k. c.if-marks-place.replies.items ++ sample_replies_marked (drop (place + 1) marks) (drop k own)) next in
    elim c.if-marks-place.branch [
      | then-marks-place+in_ok-push w ↦ (
        omega (arith, c.loop-place.invariant.0),
        c.loop-place.invariant.1
            ∙ told_reply_kept c.loop-place.replies.items c.if-marks-place.replies.items marks own place (place - cut) _ _ within there w.if-marks-place.true
            (ap (λ v. v.items) w.replies-is ∙ w.in_ok-push.ensures.items)
            ∙ later,
      )
      | else-marks-place w ↦ (
        omega (arith, c.loop-place.invariant.0),
        c.loop-place.invariant.1
            ∙ told_reply_left c.loop-place.replies.items marks own place (place - cut) _ record { processor = 0; word = 0 } within there w.if-marks-place.false
            ∙ ap (λ xs. xs ++ sample_replies_marked (drop (place + 1) marks) (drop (place - cut + 1) own)) (sym (ap (λ v. v.items) w.replies-is)) ∙ later,
      )
    ]
