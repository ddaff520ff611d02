use Rattle.std.proofs.Common.{◌<◌, length, ◌∙◌}
use Rattle.std.proofs.lemmas.List.Sorted.{All-permutation, length_permutation}
use Rattle.lrc_run.proofs.OrderExchanges.{order_exchange_rising_below}
use Rattle.lrc_run.proofs.steps.draw.Goals as goal

pub returns-in-Some-clause-below : goal.returns-in-Some-clause-below
returns-in-Some-clause-below c =
    let n = length c.args.list.now in
    let xs = c.rise.new.list in
    let ys = c.order.new.list in
    let below = order_exchange_rising_below n xs c.rise.ensures in
    let same = c.order.ensures.permutation in
    (All-permutation (λ p. p < n) xs ys same below.0, length_permutation xs ys same ∙ below.1)

pub returns-in_default-clause-below : goal.returns-in_default-clause-below
returns-in_default-clause-below c = order_exchange_rising_below (length c.args.list.now) c.rise.new.list c.rise.ensures
