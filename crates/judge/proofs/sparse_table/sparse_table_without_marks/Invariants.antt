use Rattle.std.proofs.Common.{◌≡◌, ℕ, vec_len}
use Rattle.judge.specs.SparseTables.{sparse_mark}
use Rattle.judge.proofs.sparse_table.sparse_table_without_marks.Given as goal

abbrev pub invariant-loop : goal.invariant-loop
invariant-loop l = record {
  long : vec_len l.marks ≡ l.counter;
  none : (r : ℕ) → sparse_mark l.marks.items r ≡ 0;
}
