use Rattle.std.proofs.Common.{◌≡◌}
use Rattle.causes.specs.NumberedStores.{AreNumberedStoreRows}
use Rattle.causes.proofs.store_rows.StoreRows.of.Given as goal

abbrev pub invariant-loop-place : goal.invariant-loop-place
invariant-loop-place l = record {
  addresses : l.rows.addresses ≡ l.addresses;
  rows : AreNumberedStoreRows l.events l.place l.rows;
}
