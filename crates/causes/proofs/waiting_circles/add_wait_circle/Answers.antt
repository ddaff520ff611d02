use Rattle.std.proofs.Common.{◌≡◌, ◌∙◌, ◌+◌, ap, length, vec_len, subst, sym, arith}
use Rattle.std.proofs.lemmas.Bool.{eq-eqb, eqb-true, false≢true}
use Rattle.std.proofs.lemmas.Option.{slice_get_within}
use Rattle.causes.specs.WaitingCircles.{AreWaitCircles}
use Rattle.causes.proofs.WaitCircles.{wait_circles_left, wait_circles_push}
use Rattle.causes.proofs.waiting_circles.add_wait_circle.Goals as goal

pub returns-in_ok-push : goal.returns-in_ok-push
returns-in_ok-push c = λ are.
    let least = c.args.least in
    let it = c.in_ok-circle.ensures in
    let circle = c.in_ok-circle.circle in
    let some = it.circle (λ none.
    let empty : vec_len circle ≡ 0 = (let long = ap length none in omega (arith, long, circle.ok.0)) in
    false≢true (sym c.if-not-is_empty.true ∙ c.is_empty.ensures ∙ eq-eqb (vec_len circle) 0 empty)) in
    subst (AreWaitCircles c.args.waits.now (least + 1)) (sym c.in_ok-push.ensures.items)
    (wait_circles_push c.args.waits.now least c.args.circles.now.items circle are some it.only)

pub returns-else-not-is_empty : goal.returns-else-not-is_empty
returns-else-not-is_empty c = λ are.
    wait_circles_left c.args.waits.now c.args.least c.args.circles.now.items are (λ circle is.
    let found = c.in_ok-circle.circle in
    let none : vec_len found ≡ 0 = eqb-true (vec_len found) 0 (sym c.is_empty.ensures ∙ c.if-not-is_empty.false) in
    let same : length found.items ≡ length circle = ap length (c.in_ok-circle.ensures.only circle is) in
    let some = slice_get_within circle 0 c.args.least is.begins in
    absurd (omega (arith, none, same, some, found.ok.0)))
