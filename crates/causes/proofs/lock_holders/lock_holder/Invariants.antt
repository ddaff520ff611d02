use Rattle.std.proofs.Common.{ℕ, ◌<◌}
use Rattle.journal.specs.WellFormed.{Holds}
use Rattle.causes.proofs.lock_holders.lock_holder.Given as goal

abbrev pub invariant-loop-processor : goal.invariant-loop-processor
invariant-loop-processor l = (q : ℕ) → q < l.processor → ¬ Holds l.events q l.lock
