use Rattle.std.proofs.Common.{◌≡◌, length, subst, arith}
use Rattle.causes.specs.NumberedStores.{AreNumberedStoreRows}
use Rattle.causes.proofs.store_rows.StoreRows.of.Goals as goal

pub loop-place-init : goal.loop-place-init
loop-place-init c =
    record { addresses = c.in_ok-rows.ensures.addresses; rows = c.in_ok-rows.ensures.rows c.args.events.now }

pub returns-clause-rows : goal.returns-clause-rows
returns-clause-rows c =
    let end = c.loop-place-test.false in
    let top = c.loop-place.auto.place-end in
    let is : c.loop-place.place ≡ length c.args.events.now = omega arith in
    subst (λ n. AreNumberedStoreRows c.args.events.now n c.loop-place.rows) is c.loop-place.invariant.rows
