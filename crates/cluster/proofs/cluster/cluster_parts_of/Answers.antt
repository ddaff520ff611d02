use Rattle.std.proofs.Common.{◌≡◌, List, slice_get, Some, inl, inr, subst, arith}
use Rattle.base.proofs.SlicesAndCounts.{slice_push_cases}
use Rattle.cluster.specs.declared.processor.ProcessorParts.{ProcessorParts}
use Rattle.cluster.specs.NewClusters.{AreNewClusterParts}
use Rattle.cluster.proofs.cluster.cluster_parts_of.Goals as goal

pub loop-preserved : goal.loop-preserved
loop-preserved c = record {
  long = let more = c.in_ok-push.ensures.len in let was = c.loop.invariant.long in omega arith;
  each =
      λ p x at. elim (slice_push_cases c.loop.all.items c.in_ok-new.field-0 p x
      (subst (λ (xs : List ProcessorParts). slice_get xs p ≡ Some x) c.in_ok-push.ensures.items at)) [
        | inl h ↦ c.loop.invariant.each p x h.1
        | inr h ↦ subst (AreNewClusterParts c.args.shape) h.1 c.in_ok-new.ensures
      ];
}
