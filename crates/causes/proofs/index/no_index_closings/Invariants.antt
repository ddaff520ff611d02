use Rattle.std.proofs.Common.{◌≡◌, vec_len}
use Rattle.causes.specs.Index.{AreIndexRowsEmpty}
use Rattle.causes.proofs.index.no_index_closings.Given as goal

abbrev pub invariant-loop : goal.invariant-loop
invariant-loop l = record {
  long : vec_len l.closings ≡ l.counter;
  empty : AreIndexRowsEmpty l.closings.items;
}
