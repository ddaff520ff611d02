use Rattle.std.proofs.Common.{ℕ, ◌≡◌, ◌+◌, refl, subst, sym, arith}
use Rattle.std.specs.Global.{Vec}
use Rattle.std.proofs.lemmas.Bool.{false≢true}
use Rattle.judge.specs.JudgedSizes.{judged_sizes_of}
use Rattle.causes.specs.EventStates.{IsEventStateStale}
use Rattle.causes.specs.FinalWaits.{AreThoseInFinalWait}
use Rattle.causes.proofs.StandingWaits.{standing_wait_those_next, standing_wait_those_none, standing_wait_those_others}
use Rattle.causes.proofs.stale_and_dirty_pages.stale_pages.Goals as goal
use Rattle.causes.proofs.stale_and_dirty_pages.stale_pages.Goals.{then-is_stale_page+in_ok-push, else-is_stale_page}

pub loop-page-init : goal.loop-page-init
loop-page-init c = λ j tells.
    let P : ℕ → Type 0 = IsEventStateStale (judged_sizes_of c.args.gaps.now.sizes) j c.args.reader in
    subst (AreThoseInFinalWait P 0) (sym c.new-pages.ensures.items) (standing_wait_those_none P)

pub loop-page-preserved : goal.loop-page-preserved
loop-page-preserved c = λ j tells.
    let n = c.loop-page.page in
    let P : ℕ → Type 0 = IsEventStateStale (judged_sizes_of c.args.gaps.now.sizes) j c.args.reader in
    let old = c.loop-page.invariant j tells in
    let pages = c.loop-page.pages.items in
    elim c.if-is_stale_page.branch [
      | then-is_stale_page+in_ok-push w ↦
          subst (λ (v : Vec ℕ). AreThoseInFinalWait P (n + 1) v.items) (sym w.pages-is)
          (subst (AreThoseInFinalWait P (n + 1)) (sym w.in_ok-push.ensures.items)
          (standing_wait_those_next P n pages ((w.if-is_stale_page.ensures j tells).0 refl) old))
      | else-is_stale_page w ↦
          subst (λ (v : Vec ℕ). AreThoseInFinalWait P (n + 1) v.items) (sym w.pages-is)
          (standing_wait_those_others P n pages (λ is. false≢true ((w.if-is_stale_page.ensures j tells).1 is)) old)
    ]

pub returns : goal.returns
returns c = λ j tells.
    let end = c.loop-page-test.false in
    let top = c.loop-page.auto.page-end in
    let is : c.loop-page.page ≡ c.args.gaps.now.sizes.pages = omega arith in
    subst (λ n. AreThoseInFinalWait (IsEventStateStale (judged_sizes_of c.args.gaps.now.sizes) j c.args.reader) n c.loop-page.pages.items) is
    (c.loop-page.invariant j tells)
