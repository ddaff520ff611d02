-- A processor's own cuts, one instruction after another.
use Rattle.std.proofs.Common.{◌≡◌, List, [], ◌∷◌, ◌++◌, refl, subst, ◌∙◌}
use Rattle.journal.specs.declared.event.Kind.{Kind}
use Rattle.lrc_script.specs.declared.script.Instruction.{Instruction}
use Rattle.lrc_script.specs.declared.script.Instruction.TheVariants.{Cut}
use Rattle.conformance.specs.InstructionEvents.{AreEventsOfInstruction}
use Rattle.cluster.specs.Copies.Local.{Local}
use Rattle.lrc_run.specs.RunCuts.{HasMadeRunCuts, IsRunCutOfInstruction, IsUncutMeanwhile}

-- a cut has no event
pub run_cut_has_no_event : (i : Instruction) (k : Kind) (ks : List Kind) → AreEventsOfInstruction i (k ∷ ks) → i ≡ Cut → ⊥
run_cut_has_no_event i k ks are is =
    let none : k ∷ ks ≡ [] = subst (λ (j : Instruction). AreEventsOfInstruction j (k ∷ ks)) is are in cc

-- nothing was taken off, and then nothing
run_cuts_none_then : (l m n : Local) → IsUncutMeanwhile l m → IsUncutMeanwhile m n → IsUncutMeanwhile l n
run_cuts_none_then l m n first next = record { number = next.number ∙ first.number; uncut = next.uncut ∙ first.uncut }

-- where nothing was taken off after them, the cuts are the same
pub run_cuts_none_more : (l m n : Local) (is : List Instruction) → HasMadeRunCuts l m is → IsUncutMeanwhile m n → HasMadeRunCuts l n is
run_cuts_none_more l m n [] made on = run_cuts_none_then l m n made on
run_cuts_none_more l m n (i ∷ is) made on = (made.0, made.1, made.2, made.3, run_cuts_none_more made.1 m n is made.4 on)

-- one instruction more
pub run_cuts_one_more : (l m n : Local) (is : List Instruction) (i : Instruction) → HasMadeRunCuts l m is → IsRunCutOfInstruction m n i
    → HasMadeRunCuts l n (is ++ i ∷ [])
run_cuts_one_more l m n [] i made one = (m, n, made, one, record { number = refl; uncut = refl })
run_cuts_one_more l m n (j ∷ is) i made one = (made.0, made.1, made.2, made.3, run_cuts_one_more made.1 m n is i made.4 one)
