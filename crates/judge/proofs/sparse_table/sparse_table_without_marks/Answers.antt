use Rattle.std.proofs.Common.{◌≡◌, ℕ, List, subst, sym, arith}
use Rattle.std.specs.Global.{Vec}
use Rattle.judge.specs.SparseTables.{sparse_mark}
use Rattle.judge.proofs.LongerSparseTables.{longer_sparse_mark}
use Rattle.judge.proofs.sparse_table.sparse_table_without_marks.Goals as goal

pub loop-preserved : goal.loop-preserved
loop-preserved c = record {
  long = (let len = c.in_ok-push.ensures.len in let long = c.loop.invariant.long in omega arith);
  none = λ r. subst (λ (xs : List (Vec ℕ)). sparse_mark xs r ≡ 0) (sym c.in_ok-push.ensures.items)
      (longer_sparse_mark c.loop.marks.items c.new.result r c.new.ensures.items (c.loop.invariant.none r));
}
