use Rattle.std.proofs.Common.{ℕ, ◌<◌}
use Rattle.explore.specs.PersistentSets.{IsPersistentMember}
use Rattle.explore.proofs.search.persistent_set.first_unsettled.Given as goal

abbrev pub invariant-loop-processor : goal.invariant-loop-processor
invariant-loop-processor l = (p : ℕ) → p < l.processor → IsPersistentMember l.members p → IsPersistentMember l.settled p
