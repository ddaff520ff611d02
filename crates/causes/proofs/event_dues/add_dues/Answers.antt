use Rattle.std.proofs.Common.{◌≡◌, ◌+◌, ◌*◌, Some, ap, ◌∙◌, subst, arith}
use Rattle.std.specs.Prelude.{None}
use Rattle.std.specs.Global.{Vec}
use Rattle.judge.specs.JudgedSizes.{judged_sizes_of}
use Rattle.judge.specs.GapTally.{gap_tally_place_of}
use Rattle.causes.specs.declared.event_dues.Due.{Due}
use Rattle.causes.specs.Dues.{DuesBelow, IsOneOfDues}
use Rattle.causes.proofs.DueSpans.{due_span_below_next}
use Rattle.causes.proofs.event_dues.add_dues.Goals as goal
use Rattle.causes.proofs.event_dues.add_dues.Goals.{in-Some+in_ok-push, in_default}

pub loop-writer-preserved : goal.loop-writer-preserved
loop-writer-preserved c = λ j tells before.
    let s = judged_sizes_of c.args.gaps.now.sizes in
    let span = c.args.span.now in
    let n = c.args.page in
    let q = c.loop-writer.writer in
    let new = c.match-one_of_dues.dues.items in
    let are = c.loop-writer.invariant j tells before in
    let next : gap_tally_place_of n q + 1 ≡ n * 16 + (q + 1) = omega arith in
    subst (λ row. DuesBelow s j span row new) next (elim c.match-one_of_dues.branch [
      | in-Some+in_ok-push w ↦
          due_span_below_next n q (Some w.in-Some.due) new c.loop-writer-test.true are
          (subst (IsOneOfDues s j span n q) w.in-Some.is (c.one_of_dues.ensures j tells))
          (ap (λ (v : Vec Due). v.items) w.dues-is ∙ w.in_ok-push.ensures.items)
      | in_default w ↦
          due_span_below_next n q None new c.loop-writer-test.true are
          (subst (IsOneOfDues s j span n q) w.in_default.is (c.one_of_dues.ensures j tells))
          (ap (λ (v : Vec Due). v.items) w.dues-is)
    ])

pub returns : goal.returns
returns c = λ j tells before.
    let end = c.loop-writer-test.false in
    let top = c.loop-writer.auto.writer-end in
    let is : c.loop-writer.writer ≡ 16 = omega arith in
    subst
    (λ m. DuesBelow (judged_sizes_of c.args.gaps.now.sizes) j c.args.span.now (c.args.page * 16 + m) c.loop-writer.dues.items) is
    (c.loop-writer.invariant j tells before)
