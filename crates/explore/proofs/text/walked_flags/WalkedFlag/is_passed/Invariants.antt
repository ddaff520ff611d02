use Rattle.std.proofs.Common.{◌≡◌, ℕ, ◌<◌, false, slice_index_or}
use Rattle.explore.proofs.text.walked_flags.WalkedFlag.is_passed.Given as goal

abbrev pub invariant-loop-processor : goal.invariant-loop-processor
invariant-loop-processor l = (q : ℕ) → q < l.processor → slice_index_or l.self.due q false ≡ false
