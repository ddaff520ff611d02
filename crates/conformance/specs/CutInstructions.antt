-- Which scripts cut.
use Rattle.std.specs.Prelude.{ℕ, ◌≡◌, Some, List, slice_get}
use Rattle.lrc_script.specs.declared.script.Instruction.{Instruction}
use Rattle.lrc_script.specs.declared.script.Instruction.TheVariants.{Cut}
use Rattle.lrc_script.specs.Plan.{Plan}

-- some instruction of these is a cut
abbrev pub HasCutInstruction : List Instruction → Type 0
HasCutInstruction is = (k : ℕ) × (slice_get is k ≡ Some Cut)

-- no section has one
abbrev pub HasNoCutInstruction : Plan → Type 0
HasNoCutInstruction s = (p : ℕ) (section : List Instruction) → slice_get s.sections p ≡ Some section → ¬ HasCutInstruction section
