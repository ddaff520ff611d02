use Rattle.std.proofs.Common.{◌≡◌, ◌+◌, ◌*◌, refl, subst, arith}
use Rattle.judge.specs.JudgedSizes.{judged_sizes_of}
use Rattle.causes.specs.Notices.{NoticesBelow}
use Rattle.causes.proofs.NoticeRows.{notice_rows_start}
use Rattle.causes.proofs.notices.notices_in.Goals as goal

pub loop-page-init : goal.loop-page-init
loop-page-init c = record {
  first = omega arith;
  notices = λ j tells.
      notice_rows_start (judged_sizes_of c.args.gaps.now.sizes) j c.args.span.now _ _ refl c.new-notices.ensures.items;
}

pub loop-page-preserved : goal.loop-page-preserved
loop-page-preserved c =
    let page = c.loop-page.page in
    let was = c.loop-page.invariant in
    let le = was.first in
    let next : page * 16 + 16 ≡ (page + 1) * 16 = omega arith in
    record {
      first = omega arith;
      notices = λ j tells.
          subst
          (λ m. NoticesBelow (judged_sizes_of c.args.gaps.now.sizes) j c.args.span.now m 0 c.add_notices_of_page.new.notices.items) next
          (c.in_ok-add_notices_of_page.ensures j tells (was.notices j tells));
    }

pub returns : goal.returns
returns c = λ j tells.
    let end = c.loop-page-test.false in
    let top = c.loop-page.auto.page-end in
    let order = c.requires.order in
    let is : c.loop-page.page ≡ c.args.span.now.end = omega arith in
    subst (λ m. NoticesBelow (judged_sizes_of c.args.gaps.now.sizes) j c.args.span.now (m * 16) 0 c.loop-page.notices.items) is
    (c.loop-page.invariant.notices j tells)
