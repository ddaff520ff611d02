use Rattle.std.proofs.Common.{ℕ, ◌≡◌, ◌+◌, refl, slice_index, subst, sym, arith}
use Rattle.std.specs.Global.{Vec}
use Rattle.std.proofs.lemmas.Bool.{false≢true}
use Rattle.std.proofs.lemmas.Grind.{common_steps}
use Rattle.judge.specs.JudgedSizes.{judged_sizes_of}
use Rattle.causes.specs.EventStates.{IsEventStateDirty}
use Rattle.causes.specs.FinalWaits.{AreThoseInFinalWait}
use Rattle.journal.proofs.Times.PushedTimes.{pushed_time_own_entry}
use Rattle.causes.proofs.StaleCopies.{stale_copy_or_dirty_by}
use Rattle.causes.proofs.StandingWaits.{standing_wait_those_next, standing_wait_those_none, standing_wait_those_others}
use Rattle.causes.proofs.stale_and_dirty_pages.dirty_pages.Goals as goal
use Rattle.causes.proofs.stale_and_dirty_pages.dirty_pages.Goals.{then-notice_stores_in+in_ok-push, else-notice_stores_in}

pub loop-page-init : goal.loop-page-init
loop-page-init c = λ j tells.
    let P : ℕ → Type 0 = IsEventStateDirty (judged_sizes_of c.args.gaps.now.sizes) j c.args.by in
    subst (AreThoseInFinalWait P 0) (sym c.new-pages.ensures.items) (standing_wait_those_none P)

pub loop-page-preserved : goal.loop-page-preserved
loop-page-preserved c = λ j tells.
    let n = c.loop-page.page in
    let P : ℕ → Type 0 = IsEventStateDirty (judged_sizes_of c.args.gaps.now.sizes) j c.args.by in
    let old = c.loop-page.invariant j tells in
    let is =
    stale_copy_or_dirty_by (judged_sizes_of c.args.gaps.now.sizes) j n c.args.by (slice_index c.time.result.now c.args.by)
    (pushed_time_own_entry j c.args.by (slice_index c.time.result.now) (c.time.ensures j tells)) in
    let pages = c.loop-page.pages.items in
    elim c.if-notice_stores_in.branch [
      | then-notice_stores_in+in_ok-push w ↦
          subst (λ (v : Vec ℕ). AreThoseInFinalWait P (n + 1) v.items) (sym w.pages-is)
          (subst (AreThoseInFinalWait P (n + 1)) (sym w.in_ok-push.ensures.items)
          (standing_wait_those_next P n pages (is.0 ((w.if-notice_stores_in.ensures j tells).0 refl)) old))
      | else-notice_stores_in w ↦
          subst (λ (v : Vec ℕ). AreThoseInFinalWait P (n + 1) v.items) (sym w.pages-is)
          (standing_wait_those_others P n pages (λ dirty. false≢true ((w.if-notice_stores_in.ensures j tells).1 (is.1 dirty))) old)
    ]

pub returns : goal.returns
returns c = λ j tells.
    let end = c.loop-page-test.false in
    let top = c.loop-page.auto.page-end in
    let is : c.loop-page.page ≡ c.args.gaps.now.sizes.pages = omega arith in
    subst (λ n. AreThoseInFinalWait (IsEventStateDirty (judged_sizes_of c.args.gaps.now.sizes) j c.args.by) n c.loop-page.pages.items) is
    (c.loop-page.invariant j tells)

pub notice_stores_in-requires-clause-interval : goal.notice_stores_in-requires-clause-interval
notice_stores_in-requires-clause-interval c = grind (arith, common_steps)
