use Rattle.std.proofs.Common.{ℕ, ◌≡◌, ◌<◌, List, length, ap, subst, sym, ◌∙◌, arith}
use Rattle.std.specs.List.{range_with_len}
use Rattle.std.specs.List.Sorted.{IsPermutation}
use Rattle.std.proofs.lemmas.List.Sorted.{All-permutation, length_permutation}
use Rattle.lrc_run.specs.DrawnOrders.{AreDrawnOrderProcessors}
use Rattle.lrc_run.proofs.DrawnPlaces.{drawn_order_whole}
use Rattle.lrc_run.proofs.OrderExchanges.{order_exchange_rising_below}
use Rattle.lrc_run.proofs.steps.pace.Pace.new.Goals as goal

pub returns-clause-below : goal.returns-clause-below
returns-clause-below c =
    let n = c.args.processors in
    let xs = c.rise.new.list in
    let ys = c.order.new.list in
    let long : c.in_ok-list.list.len ≡ n = c.in_ok-list.ensures in
    let first : length c.deref_mut.result.now ≡ n =
    ap (λ (zs : List ℕ). length zs) c.deref_mut.ensures.value ∙ omega (arith, c.in_ok-list.list.ok, long) in
    let low = order_exchange_rising_below n xs (c.rise.ensures ∙ ap (range_with_len 0) first) in
    let second : c.deref_mut-2.result.now ≡ xs = c.deref_mut-2.ensures.value ∙ drawn_order_whole xs _ c.in_ok-list.list.len (long ∙ sym low.1) in
    let same = subst (λ (zs : List ℕ). IsPermutation zs ys) second c.order.ensures.permutation in
    let below = All-permutation (λ p. p < n) xs ys same low.0 in
    let many : length ys ≡ n = length_permutation xs ys same ∙ low.1 in
    subst (AreDrawnOrderProcessors n) (sym (drawn_order_whole ys _ c.in_ok-list.list.len (long ∙ sym many))) below
