use Rattle.std.proofs.Common.{ℕ, ◌≡◌, ◌≤◌, length, min, max, slice_get}
use Rattle.seats.specs.Tables.{table_guard_put, table_range_has}
use Rattle.seats.proofs.layout.put_in.Given as goal

abbrev pub invariant-loop-address : goal.invariant-loop-address
invariant-loop-address l = record {
  long : length l.table.items ≡ length l.fn.table.items;
  least : l.from ≤ l.address;
  most : l.address ≤ max l.from (min l.to (length l.fn.table.items));
  each : (a : ℕ) → slice_get l.table.items a
      ≡ table_guard_put (table_range_has l.from l.address a) l.guard (slice_get l.fn.table.items a);
}
