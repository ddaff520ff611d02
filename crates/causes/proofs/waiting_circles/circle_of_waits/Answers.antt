use Rattle.std.proofs.Common.{◌≡◌, ◌∙◌, ◌+◌, ◌∷◌, [], Some, length, refl, sym, subst, arith}
use Rattle.causes.specs.WaitingCircles.{waits_for}
use Rattle.std.proofs.lemmas.List.{length-append}
use Rattle.causes.proofs.WaitingWalks.{IsWaitingWalk, waiting_walk_next, waiting_walk_start}
use Rattle.causes.proofs.waiting_circles.circle_of_waits.Goals as goal

pub loop-init : goal.loop-init
loop-init c =
    subst (λ path. (length path ≡ 0) × IsWaitingWalk c.args.waits.now c.args.least path c.args.least) (sym c.new-circle.ensures.items)
    (refl, waiting_walk_start c.args.waits.now c.args.least)

pub loop-preserved : goal.loop-preserved
loop-preserved c =
    let path = c.loop.circle.items in
    let at = c.loop.at in
    let next = c.in-Some.next in
    let for : waits_for c.args.waits.now at ≡ Some next = sym c.waits_for.ensures ∙ c.in-Some.is in
    subst (λ new. (length new ≡ c.loop.counter + 1) × IsWaitingWalk c.args.waits.now c.args.least new next) (sym c.in_ok-push.ensures.items) (
      omega (arith, c.loop.invariant.0, length-append path (at ∷ [])),
      waiting_walk_next c.args.waits.now c.args.least path at next c.loop.invariant.1 for c.if-next-least-2.true,
    )
