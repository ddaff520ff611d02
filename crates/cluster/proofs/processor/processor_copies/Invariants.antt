use Rattle.std.proofs.Common.{◌≡◌, replicate}
use Rattle.cluster.specs.Copies.Local.{blank_local_copy}
use Rattle.cluster.proofs.processor.processor_copies.Given as goal

abbrev pub invariant-loop : goal.invariant-loop
invariant-loop l = l.replicas.items ≡ replicate l.counter (blank_local_copy l.fn.shape)
