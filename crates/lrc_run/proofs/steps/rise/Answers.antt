use Rattle.std.proofs.Common.{suc, zero-add, ◌≡◌, ◌+◌, ◌<◌, [], ◌∷◌, ◌++◌, length, take, ap, sym, ◌∙◌, arith}
use Rattle.std.specs.List.{range_with_len}
use Rattle.std.proofs.Math.Seq.{take-length}
use Rattle.std.proofs.lemmas.List.{length-set, take_more_set}
use Rattle.lrc_run.proofs.OrderExchanges.{order_exchange_rising_more}
use Rattle.lrc_run.proofs.steps.rise.Goals as goal

pub loop-place-preserved : goal.loop-place-preserved
loop-place-preserved c =
    let xs = c.loop-place.list in
    let k = c.loop-place.place in
    let was = c.loop-place.invariant in
    let inside : k < length xs = omega (arith, c.loop-place-test.true, was.long) in
    let on : k + 1 ≡ suc k = omega arith in
    record {
      long = length-set xs k k ∙ was.long;
      front = take_more_set xs k k inside ∙ ap (λ ys. ys ++ k ∷ []) was.front ∙ sym (ap (range_with_len 0) on
          ∙ order_exchange_rising_more 0 k ∙ ap (λ x. range_with_len 0 k ++ x ∷ []) (zero-add k));
    }

pub returns : goal.returns
returns c =
    let xs = c.loop-place.list in
    let k = c.loop-place.place in
    let was = c.loop-place.invariant in
    let last : k ≡ length xs = omega (arith, c.loop-place.auto.place-end, c.loop-place-test.false, was.long) in
    sym (take-length xs) ∙ ap (λ n. take n xs) (sym last) ∙ was.front ∙ ap (range_with_len 0) (last ∙ was.long)
