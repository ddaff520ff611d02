use Rattle.std.proofs.Common.{◌≡◌, ◌+◌, ◌*◌, subst, arith}
use Rattle.judge.specs.JudgedSizes.{judged_sizes_of}
use Rattle.causes.specs.Dues.{DuesBelow}
use Rattle.causes.proofs.DueSpans.{due_span_below_start}
use Rattle.std.proofs.Common.{refl}
use Rattle.causes.proofs.event_dues.dues_in.Goals as goal

pub loop-page-init : goal.loop-page-init
loop-page-init c = record {
  first = omega arith;
  dues = λ j tells.
      due_span_below_start (judged_sizes_of c.args.gaps.now.sizes) j c.args.span.now _ _ refl c.new-dues.ensures.items;
}

pub loop-page-preserved : goal.loop-page-preserved
loop-page-preserved c =
    let page = c.loop-page.page in
    let was = c.loop-page.invariant in
    let le = was.first in
    let next : page * 16 + 16 ≡ (page + 1) * 16 = omega arith in
    record {
      first = omega arith;
      dues = λ j tells.
          subst
          (λ m. DuesBelow (judged_sizes_of c.args.gaps.now.sizes) j c.args.span.now m c.add_dues.new.dues.items) next
          (c.in_ok-add_dues.ensures j tells (was.dues j tells));
    }

pub returns : goal.returns
returns c = λ j tells.
    let end = c.loop-page-test.false in
    let top = c.loop-page.auto.page-end in
    let order = c.requires.order in
    let is : c.loop-page.page ≡ c.args.span.now.end = omega arith in
    subst (λ m. DuesBelow (judged_sizes_of c.args.gaps.now.sizes) j c.args.span.now (m * 16) c.loop-page.dues.items) is
    (c.loop-page.invariant.dues j tells)
