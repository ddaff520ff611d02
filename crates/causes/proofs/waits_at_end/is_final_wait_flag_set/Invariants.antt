use Rattle.std.proofs.Common.{ℕ, ◌<◌}
use Rattle.journal.specs.declared.event.Kind.TheVariants.{Set}
use Rattle.journal.specs.WellFormed.{Does}
use Rattle.causes.proofs.waits_at_end.is_final_wait_flag_set.Given as goal

abbrev pub invariant-loop-place : goal.invariant-loop-place
invariant-loop-place l = (k q : ℕ) → k < l.place → ¬ Does l.events k q (Set l.flag)
