use Rattle.std.proofs.Common.{ℕ, ◌≡◌, ◌<◌, ◌≤◌, Some, slice_get, slice_index}
use Rattle.cluster.specs.Copies.PageReplica.{PageReplica}
use Rattle.cluster.specs.Copies.AfterNews.{AreSameCopiesAfterNews, AreZerosAfterNews}
use Rattle.cluster.proofs.copies.learning.make_room_to_learn.Given as goal

abbrev pub invariant-loop-page : goal.invariant-loop-page
invariant-loop-page l = record {
  same : AreSameCopiesAfterNews l.initial.replicas l.replicas;
  room : (n : ℕ) (c : PageReplica) → n < l.page → slice_get l.replicas n ≡ Some c → slice_index l.counts n ≤ c.room;
  zeros : AreZerosAfterNews l.counts → l.replicas ≡ l.initial.replicas;
}
