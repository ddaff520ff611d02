use Rattle.std.proofs.Common.{arith}
use Rattle.std.proofs.lemmas.Grind.{elements}
use Rattle.judge.proofs.sparse_table.shorten_sparse_table_row.Goals as goal

pub offset_bounds-deref-from : goal.offset_bounds-deref-from
offset_bounds-deref-from g c = grind (arith, elements)

pub slice_bounds-left-count : goal.slice_bounds-left-count
slice_bounds-left-count g c = grind (arith, elements)

pub slice_bounds-left-start : goal.slice_bounds-left-start
slice_bounds-left-start g c = grind (arith, elements)

pub returns-in_ok-table-clause-shortened : goal.returns-in_ok-table-clause-shortened
returns-in_ok-table-clause-shortened g c = grind (arith, elements)
