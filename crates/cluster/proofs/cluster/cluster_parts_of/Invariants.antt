use Rattle.std.proofs.Common.{ℕ, ◌≡◌, vec_len, slice_get, Some}
use Rattle.cluster.specs.declared.processor.ProcessorParts.{ProcessorParts}
use Rattle.cluster.specs.NewClusters.{AreNewClusterParts}
use Rattle.cluster.proofs.cluster.cluster_parts_of.Given as goal

abbrev pub invariant-loop : goal.invariant-loop
invariant-loop l = record {
  long : vec_len l.all ≡ l.counter;
  each : (p : ℕ) (x : ProcessorParts) → slice_get l.all.items p ≡ Some x → AreNewClusterParts l.shape x;
}
