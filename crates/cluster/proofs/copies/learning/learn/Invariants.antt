use Rattle.std.proofs.Common.{◌≡◌, ◌++◌}
use Rattle.std.specs.Vec.Iter.{into_iter_items}
use Rattle.cluster.specs.Copies.AfterNews.{AreAfterNews, CopiesMayLackNews}
use Rattle.cluster.proofs.copies.learning.learn.Given as goal

abbrev pub invariant-loop-sent : goal.invariant-loop-sent
invariant-loop-sent l = record {
  came : l.yielded ++ into_iter_items l.sent-iterator ≡ l.fn.notices.items;
  news : AreAfterNews l.initial.replicas l.yielded l.replicas;
  may : CopiesMayLackNews l.replicas (into_iter_items l.sent-iterator);
}
