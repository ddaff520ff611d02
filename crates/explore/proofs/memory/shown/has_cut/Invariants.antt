use Rattle.std.proofs.Common.{ℕ, ◌≢◌, ◌<◌, Some, slice_get}
use Rattle.lrc_script.specs.declared.script.Instruction.TheVariants.{Cut}
use Rattle.explore.proofs.memory.shown.has_cut.Given as goal

abbrev pub invariant-loop-instruction : goal.invariant-loop-instruction
invariant-loop-instruction l = (k : ℕ) → k < l.instruction-index → slice_get l.section k ≢ Some Cut
