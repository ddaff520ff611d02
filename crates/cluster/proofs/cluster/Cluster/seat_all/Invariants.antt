use Rattle.std.proofs.Common.{ℕ, ◌≡◌, ◌≤◌, ◌+◌, ◌++◌, vec_len, vec_capacity, length, slice_get, Some}
use Rattle.std.specs.Vec.Iter.{into_iter_items}
use Rattle.cluster.specs.declared.processor.ProcessorParts.{ProcessorParts}
use Rattle.cluster.specs.Copies.Local.{Local}
use Rattle.cluster.specs.NewClusters.{AreNewClusterParts, IsSeatedAtNewCluster}
use Rattle.cluster.proofs.cluster.Cluster.seat_all.Given as goal

abbrev pub invariant-loop-chair : goal.invariant-loop-chair
invariant-loop-chair g l = record {
  came : l.yielded ++ into_iter_items l.chair-iterator ≡ l.fn.chairs.items;
  left : vec_len l.parts + length l.yielded ≡ l.shape.processors;
  parts : (p : ℕ) (x : ProcessorParts) → slice_get l.parts.items p ≡ Some x → AreNewClusterParts l.shape x;
  made : vec_len l.all ≡ length l.yielded;
  each : (p : ℕ) (m : Local) → slice_get l.all.items p ≡ Some m → IsSeatedAtNewCluster l.shape l.fn.chairs.items p m;
  room : l.shape.processors ≤ vec_capacity l.all;
}
