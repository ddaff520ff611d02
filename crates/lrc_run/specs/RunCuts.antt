-- Cuts of a script: each `cut` of a section is a call of the section's own processor.
use Rattle.std.specs.Prelude.{◌≡◌, Option, List, [], ◌∷◌}
use Rattle.book.specs.declared.refused.Refused.{Refused}
use Rattle.lrc_script.specs.declared.script.Instruction.{Instruction}
use Rattle.lrc_script.specs.declared.script.Instruction.TheVariants.{Cut}
use Rattle.cluster.specs.Copies.Local.{Local}
use Rattle.cluster.specs.CuttingCalls.{IsCuttingCall}

-- the processor has called `cut`, which cut something off or was refused
pub record IsRunCut (old new : Local) : Type 0 where
  pub answer : Option Refused
  pub call : IsCuttingCall old new answer

-- what an instruction takes off by its processor's own cuts: a cut is a call, and no other one takes anything off
pub record IsRunCutOfInstruction (old new : Local) (i : Instruction) : Type 0 where
  pub number : new.number ≡ old.number
  pub cut : i ≡ Cut → IsRunCut old new
  pub others : ¬ (i ≡ Cut) → new.own_cut ≡ old.own_cut

-- it is the same processor, and its own cuts took nothing off meanwhile
pub record IsUncutMeanwhile (old new : Local) : Type 0 where
  pub number : new.number ≡ old.number
  pub uncut : new.own_cut ≡ old.own_cut

-- its own cuts while it did these instructions, one after another, were theirs
abbrev pub HasMadeRunCuts : Local → Local → List Instruction → Type 0
HasMadeRunCuts old new [] = IsUncutMeanwhile old new
HasMadeRunCuts old new (i ∷ is) =
    (before after : Local) × IsUncutMeanwhile old before × IsRunCutOfInstruction before after i × HasMadeRunCuts after new is
