use Rattle.std.proofs.Common.{ℕ, ◌<◌, Some, slice_get}
use Rattle.std.specs.Prelude.{◌≡◌}
use Rattle.std.specs.Global.{Vec}
use Rattle.lrc_script.specs.declared.script.Instruction.{Instruction}
use Rattle.conformance.specs.CutInstructions.{HasCutInstruction}
use Rattle.explore.proofs.memory.shown.has_cut_script.Given as goal

abbrev pub invariant-loop-section : goal.invariant-loop-section
invariant-loop-section l = (k : ℕ) (v : Vec Instruction) → k < l.section-index → slice_get l.section-items k ≡ Some v → ¬ HasCutInstruction v.items
