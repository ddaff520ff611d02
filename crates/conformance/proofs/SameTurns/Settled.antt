-- Where a run has come to its end, further turns make nothing of it: all have passed the closing barrier, or wait in vain.
use Rattle.std.proofs.Common.{ℕ, zero, suc, ◌≡◌, inl, inr, Option, Some, None, List, [], ◌∷◌, map, slice_get, slice_set, refl, sym, ap, subst, subst₂, ◌∙◌}
use Rattle.std.specs.Prelude.{option_map}
use Rattle.std.proofs.lemmas.Option.{none-some, same_Some, slice_get-map}
use Rattle.journal.specs.declared.event.Event.{Event}
use Rattle.journal.specs.declared.event.Kind.{Kind}
use Rattle.journal.specs.WellFormed.{Ready, WellFormed}
use Rattle.lrc_script.specs.declared.script.Instruction.{Instruction}
use Rattle.lrc_script.specs.Plan.{Plan}
use Rattle.conformance.specs.Follows.{plan_sizes}
use Rattle.conformance.specs.SameTurns.{AreSameTurns, same_turn_stage_valueless}
use Rattle.conformance.specs.ScriptTurns.{AreScriptTurns, IsScriptTurn, ScriptTurnStage}
use Rattle.conformance.specs.declared.progress.TurnProgress.{TurnProgress}
use Rattle.conformance.specs.declared.progress.TurnProgress.TheVariants.{Next, Passed, Waits}
use Rattle.conformance.proofs.SameTurns.Along.{along_well_formed}
use Rattle.conformance.proofs.SameTurns.InstructionKinds.{instruction_kinds_awaited_taking}
use Rattle.conformance.proofs.SameTurns.SideBySide.{side_ready_before, side_ready_like}

-- p has passed the closing barrier, or waits in vain
abbrev pub IsSettled : Plan → List Event → ℕ → TurnProgress → Type 0
IsSettled s h p (Next n) = ⊥
IsSettled s h p (Waits n) = ¬ Ready (plan_sizes s) h p
IsSettled s h p Passed = Unit {0}

-- each does
abbrev pub AreSettled : Plan → List Event → List ScriptTurnStage → Type 0
AreSettled s h xs = (p : ℕ) (x : ScriptTurnStage) → slice_get xs p ≡ Some x → IsSettled s h p x.progress

-- of two runs that are the same, the stage in the one is as in the other
record SettledStage (xs : List ScriptTurnStage) (p : ℕ) (b : ScriptTurnStage) : Type 0 where
  stage : ScriptTurnStage
  at : slice_get xs p ≡ Some stage
  same : same_turn_stage_valueless stage ≡ same_turn_stage_valueless b

settled_stage : (xs ys : List ScriptTurnStage) (p : ℕ) (b : ScriptTurnStage) → map same_turn_stage_valueless xs ≡ map same_turn_stage_valueless ys
    → slice_get ys p ≡ Some b → SettledStage xs p b
settled_stage xs ys p b same there = found (slice_get xs p) refl is
  where
    is : option_map same_turn_stage_valueless (slice_get xs p) ≡ Some (same_turn_stage_valueless b)
    is = sym (slice_get-map same_turn_stage_valueless xs p) ∙ ap (λ zs. slice_get zs p) same ∙ slice_get-map same_turn_stage_valueless ys p
        ∙ ap (option_map same_turn_stage_valueless) there

    found : (o : Option ScriptTurnStage) → slice_get xs p ≡ o → option_map same_turn_stage_valueless o ≡ Some (same_turn_stage_valueless b)
        → SettledStage xs p b
    found None here none = absurd (none-some (same_turn_stage_valueless b) none)
    found (Some a) here same = record { stage = a; at = here; same = same_Some (same_turn_stage_valueless a) (same_turn_stage_valueless b) same }

-- to write what stands there changes nothing
settled_set : {A : Type 0} (xs : List A) (p : ℕ) (x : A) → slice_get xs p ≡ Some x → slice_set xs p x ≡ xs
settled_set [] p x here = absurd (none-some x here)
settled_set (y ∷ xs) zero x here = ap (λ z. z ∷ xs) (sym (same_Some y x here))
settled_set (y ∷ xs) (suc p) x here = ap (λ zs. y ∷ zs) (settled_set xs p x here)

-- p's turn then changes nothing
settled_turn_of : (s : Plan) (p : ℕ) (section : List Instruction) {h : List Event} {old : ScriptTurnStage} (t : TurnProgress) {to : List Event}
    {new : ScriptTurnStage} → WellFormed (plan_sizes s) to → IsSettled s h p t → IsScriptTurn s p section h old t to new
    → (to ≡ h) × (new ≡ old)
settled_turn_of s p section (Next n) well settled turn = absurd settled
settled_turn_of s p section {h = h} (Waits n) {to = to} well settled (inl ended) =
    absurd (settled (side_ready_before s to h p ended.last well ended.taken (instruction_kinds_awaited_taking ended.first ended.last ended.waits)))
settled_turn_of s p section (Waits n) well settled (inr vain) = (vain.none, vain.new_is)
settled_turn_of s p section Passed well settled none = none

-- the history g has come to its end by these stages, and another run is the same
pub record IsSettledAs (s : Plan) (g : List Event) (xs : List ScriptTurnStage) (h : List Event) (ys : List ScriptTurnStage) : Type 0 where
  pub settled : AreSettled s g xs
  pub same : AreSameTurns g h xs ys

-- where it is settled in the one it is in the other
settled_like : (p : ℕ) {s : Plan} {g h : List Event} {xs ys : List ScriptTurnStage} (b : ScriptTurnStage) → IsSettledAs s g xs h ys
    → slice_get ys p ≡ Some b → IsSettled s h p b.progress
settled_like p {s = s} {g = g} {h = h} {xs = xs} {ys = ys} b x there =
    let stage = settled_stage xs ys p b x.same.stages there in
    by b.progress (subst (IsSettled s g p) (ap (λ (y : TurnProgress × List Kind × List Kind). y.0) stage.same) (x.settled p stage.stage stage.at))
  where
    by : (t : TurnProgress) → IsSettled s g p t → IsSettled s h p t
    by (Next n) is = is
    by (Waits n) late = λ ready. late (side_ready_like s (sym x.same.events) ready)
    by Passed is = is

-- many turns of the other change nothing
pub settled_turns : {s : Plan} (ps : List ℕ) {g h : List Event} {xs ys : List ScriptTurnStage} {to : List Event} {zs : List ScriptTurnStage}
    → IsSettledAs s g xs h ys → WellFormed (plan_sizes s) to → AreScriptTurns s ps h ys to zs → (to ≡ h) × (zs ≡ ys)
settled_turns [] x well turns = turns
settled_turns {s = s} (p ∷ ps) {g = g} {h = h} {xs = xs} {ys = ys} {to = to} {zs = zs} x well turns =
    let turn = turns.2 in
    let front = along_well_formed s ps turns.0 turns.1 to zs turns.3 well in
    let none = settled_turn_of s p turn.section turn.before.progress front (settled_like p turn.before x turn.before_is) turn.turn in
    let stays : turns.1 ≡ ys = turn.others ∙ ap (slice_set ys p) none.1 ∙ settled_set ys p turn.before turn.before_is in
    let rest = settled_turns ps (subst₂ (IsSettledAs s g xs) (sym none.0) (sym stays) x) well turns.3 in
    (rest.0 ∙ none.0, rest.1 ∙ stays)
