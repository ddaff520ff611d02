use Rattle.std.proofs.Common.{◌≡◌, ℕ, ◌+◌, ◌-◌, Some, length, slice_get, slice_index_or, subst, sym, ◌∙◌, arith}
use Rattle.std.specs.Global.{Vec}
use Rattle.std.proofs.lemmas.Bool.{false≢true}
use Rattle.std.proofs.lemmas.Option.{slice_get-get_or}
use Rattle.base.specs.InOrderOnce.{Has}
use Rattle.causes.specs.HandOvers.{AreHandOversFrom}
use Rattle.causes.proofs.LastHandOvers.{hand_over_last_next, hand_over_last_none, hand_over_last_others}
use Rattle.causes.proofs.hand_over_lists.last_hand_overs.Goals as goal
use Rattle.causes.proofs.hand_over_lists.last_hand_overs.Goals.{then-not-some_hand_over_reached+in_ok-push, else-not-some_hand_over_reached}

pub loop-index-init : goal.loop-index-init
loop-index-init c =
    hand_over_last_none c.args.events.now c.args.news.now (length c.args.news.now - 0) c.new-places.result.items (omega arith)
    c.new-places.ensures.items

pub some_hand_over_reached-requires-clause-from : goal.some_hand_over_reached-requires-clause-from
some_hand_over_reached-requires-clause-from c =
    let news = c.args.news.now in
    let n = length news - 1 - c.loop-index.index in
    let lt = c.loop-index-test.true in
    c.requires.within (slice_index_or news n 0) (n, slice_get-get_or news n 0 (omega arith))

pub some_hand_over_reached-requires-clause-places : goal.some_hand_over_reached-requires-clause-places
some_hand_over_reached-requires-clause-places c = λ n has.
    (let old = subst (λ xs. Has xs n) c.deref.ensures.value has in
    c.requires.within n (c.loop-index.invariant.each n old))

pub loop-index-preserved : goal.loop-index-preserved
loop-index-preserved c =
    let events = c.args.events.now in
    let news = c.args.news.now in
    let index = c.loop-index.index in
    let n = length news - 1 - index in
    let lt = c.loop-index-test.true in
    let p = slice_index_or news n 0 in
    let at : slice_get news n ≡ Some p = slice_get-get_or news n 0 (omega arith) in
    let places = c.loop-index.places.items in
    let behind : length news - index ≡ n + 1 = omega arith in
    let here : n ≡ length news - (index + 1) = omega arith in
    let old : AreHandOversFrom events news (n + 1) places =
    subst (λ m. AreHandOversFrom events news m places) behind c.loop-index.invariant in
    subst (λ m. AreHandOversFrom events news m c.if-not-some_hand_over_reached.places.items) here (elim c.if-not-some_hand_over_reached.branch [
      | then-not-some_hand_over_reached+in_ok-push w ↦
          subst (λ (v : Vec ℕ). AreHandOversFrom events news n v.items) (sym w.places-is)
          (subst (AreHandOversFrom events news n) (sym w.in_ok-push.ensures.items)
          (hand_over_last_next events news n p places c.requires.rising at
          (λ m has up. false≢true (sym w.if-not-some_hand_over_reached.true
          ∙ c.some_hand_over_reached.ensures.1 (m, subst (λ xs. Has xs m) (sym c.deref.ensures.value) has, up))) old))
      | else-not-some_hand_over_reached w ↦
          (let some = c.some_hand_over_reached.ensures.0 w.if-not-some_hand_over_reached.false in
          subst (λ (v : Vec ℕ). AreHandOversFrom events news n v.items) (sym w.places-is)
          (hand_over_last_others events news n p places at
          (some.0, subst (λ xs. Has xs some.0) c.deref.ensures.value some.1, some.2) old))
    ])

pub returns : goal.returns
returns c =
    let end = c.loop-index-test.false in
    let top = c.loop-index.auto.index-end in
    let is : length c.args.news.now - c.loop-index.index ≡ 0 = omega arith in
    subst (λ m. AreHandOversFrom c.args.events.now c.args.news.now m c.loop-index.places.items) is c.loop-index.invariant
