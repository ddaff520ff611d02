use Rattle.std.proofs.Common.{◌≡◌, ◌+◌, ◌*◌, subst, arith}
use Rattle.judge.specs.JudgedSizes.{judged_sizes_of}
use Rattle.judge.specs.GapTally.{gap_tally_place_of}
use Rattle.causes.specs.Notices.{NoticesBelow}
use Rattle.causes.proofs.notices.add_notices_of_page.Goals as goal

pub loop-writer-preserved : goal.loop-writer-preserved
loop-writer-preserved c = λ j tells before.
    let s = judged_sizes_of c.args.gaps.now.sizes in
    let span = c.args.span.now in
    let n = c.args.page in
    let q = c.loop-writer.writer in
    let next : gap_tally_place_of n q + 1 ≡ n * 16 + (q + 1) = omega arith in
    subst (λ row. NoticesBelow s j span row 0 c.add_notices_of_writer.new.notices.items) next
    (c.in_ok-add_notices_of_writer.ensures j tells (c.loop-writer.invariant j tells before))

pub returns : goal.returns
returns c = λ j tells before.
    let end = c.loop-writer-test.false in
    let top = c.loop-writer.auto.writer-end in
    let is : c.loop-writer.writer ≡ 16 = omega arith in
    subst
    (λ m. NoticesBelow (judged_sizes_of c.args.gaps.now.sizes) j c.args.span.now (c.args.page * 16 + m) 0 c.loop-writer.notices.items) is
    (c.loop-writer.invariant j tells before)
