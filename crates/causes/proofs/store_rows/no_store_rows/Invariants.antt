use Rattle.std.proofs.Common.{◌≡◌, ℕ, [], Some, slice_get, vec_len}
use Rattle.std.specs.Global.{Vec}
use Rattle.causes.specs.declared.store_rows.NumberedStore.{NumberedStore}
use Rattle.causes.proofs.store_rows.no_store_rows.Given as goal

abbrev pub invariant-loop : goal.invariant-loop
invariant-loop l = record {
  long : vec_len l.rows ≡ l.counter;
  empty : (n : ℕ) (row : Vec NumberedStore) → slice_get l.rows.items n ≡ Some row → row.items ≡ [];
}
