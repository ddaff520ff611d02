-- Along many turns: each goes on from the history before it, a processor waits exactly if its last call does, and two runs
-- stay the same.
use Rattle.std.proofs.Common.{ℕ, ◌≡◌, ◌+◌, inl, inr, Bool, true, false, cond, Some, List, [], ◌∷◌, ◌++◌, map, length, slice_get, slice_set, refl, sym, ap, subst, subst₂, ◌∙◌, append_assoc, append-nil}
use Rattle.std.specs.Prelude.{nat_lt}
use Rattle.std.proofs.lemmas.Bool.{cases_eq, false≢true}
use Rattle.std.proofs.lemmas.List.{length-set}
use Rattle.base.proofs.SliceSets.{slice_get-replicate_found, slice_get-set_found, slice_get-set_other}
use Rattle.journal.specs.declared.event.Event.{Event}
use Rattle.journal.specs.declared.event.Kind.{Kind}
use Rattle.journal.specs.DidEvent.{event}
use Rattle.journal.specs.WellFormed.{WellFormed}
use Rattle.journal.proofs.Journals.WellFormedStays.{well_formed_stays_front}
use Rattle.lrc_script.specs.declared.script.Instruction.{Instruction}
use Rattle.lrc_script.specs.Plan.{Plan}
use Rattle.conformance.specs.Follows.{plan_sizes}
use Rattle.conformance.specs.Like.{SameButValues}
use Rattle.conformance.specs.OpenBlocks.{open_block}
use Rattle.conformance.specs.SameTurns.{AreSameTurns, SameTurnsLaw, same_turn_stage_valueless}
use Rattle.conformance.specs.ScriptTurns.{AreScriptTurns, IsScriptTurn, IsScriptTurnAt, ScriptTurnStage, first_script_turn_stages, script_turn_instruction, script_turn_progress_after, script_turn_stage}
use Rattle.conformance.specs.declared.progress.TurnProgress.{TurnProgress}
use Rattle.conformance.specs.declared.progress.TurnProgress.TheVariants.{Next, Passed, Waits}
use Rattle.conformance.proofs.SameTurns.InstructionKinds.{instruction_kinds_end_waiting, instruction_kinds_end_waiting-append, instruction_kinds_awaited_wait, instruction_kinds_done_waiting}
use Rattle.conformance.proofs.SameTurns.NotedBlocks.{noted_block_calls_go_on}
use Rattle.conformance.proofs.SameTurns.SideBySide.{side_turn}

-- a turn goes on from the history before it
along_turn_front : (s : Plan) (p : ℕ) (section : List Instruction) (h : List Event) (old : ScriptTurnStage) (t : TurnProgress)
    (to : List Event) (new : ScriptTurnStage)
    → IsScriptTurn s p section h old t to new → (more : List Event) × (to ≡ h ++ more)
along_turn_front s p section h old (Next n) to new (inl done) =
    noted_block_calls_go_on (plan_sizes s) p done.kinds (open_block h old.pending) (open_block to new.pending) done.noted
along_turn_front s p section h old (Next n) to new (inr begun) =
    noted_block_calls_go_on (plan_sizes s) p (begun.first ∷ []) (open_block h old.pending) (open_block to []) begun.noted
along_turn_front s p section h old (Waits n) to new (inl ended) = (event p ended.last ∷ [], ended.taken)
along_turn_front s p section h old (Waits n) to new (inr vain) = ([], vain.none ∙ sym (append-nil h))
along_turn_front s p section h old Passed to new none = ([], none.0 ∙ sym (append-nil h))

-- and so do many
pub along_front : (s : Plan) (ps : List ℕ) (h : List Event) (old : List ScriptTurnStage) (to : List Event) (new : List ScriptTurnStage)
    → AreScriptTurns s ps h old to new → (more : List Event) × (to ≡ h ++ more)
along_front s [] h old to new turns = ([], turns.0 ∙ sym (append-nil h))
along_front s (p ∷ ps) h old to new turns =
    let turn = turns.2 in
    let first = along_turn_front s p turn.section h turn.before turn.before.progress turns.0 turn.after turn.turn in
    let rest = along_front s ps turns.0 turns.1 to new turns.3 in
    (first.0 ++ rest.0, rest.1 ∙ ap (λ es. es ++ rest.0) first.1 ∙ append_assoc h first.0 rest.0)

-- so what stands before them is well formed, if they are
pub along_well_formed : (s : Plan) (ps : List ℕ) (h : List Event) (old : List ScriptTurnStage) (to : List Event) (new : List ScriptTurnStage)
    → AreScriptTurns s ps h old to new → WellFormed (plan_sizes s) to → WellFormed (plan_sizes s) h
along_well_formed s ps h old to new turns well =
    let more = along_front s ps h old to new turns in
    well_formed_stays_front (plan_sizes s) h more.0 (subst (WellFormed (plan_sizes s)) more.1 well)

-- the first turns, and then the others
pub record AlongBoth (s : Plan) (ps qs : List ℕ) (h : List Event) (old : List ScriptTurnStage) (to : List Event) (new : List ScriptTurnStage)
    : Type 0 where
  pub half : List Event
  pub between : List ScriptTurnStage
  pub first : AreScriptTurns s ps h old half between
  pub others : AreScriptTurns s qs half between to new

pub along_both : (s : Plan) (ps qs : List ℕ) (h : List Event) (old : List ScriptTurnStage) {to : List Event} {new : List ScriptTurnStage}
    → AreScriptTurns s (ps ++ qs) h old to new → AlongBoth s ps qs h old to new
along_both s [] qs h old turns = record { half = h; between = old; first = (refl, refl); others = turns }
along_both s (p ∷ ps) qs h old turns =
    let rest = along_both s ps qs turns.0 turns.1 turns.3 in
    record {
      half = rest.half;
      between = rest.between;
      first = (turns.0, turns.1, turns.2, rest.first);
      others = rest.others;
    }

-- there are as many stages
pub along_many : (s : Plan) (ps : List ℕ) (h : List Event) (old : List ScriptTurnStage) (to : List Event) (new : List ScriptTurnStage)
    → AreScriptTurns s ps h old to new → length new ≡ length old
along_many s [] h old to new turns = ap length turns.1
along_many s (p ∷ ps) h old to new turns =
    along_many s ps turns.0 turns.1 to new turns.3 ∙ ap length turns.2.others ∙ length-set old p turns.2.after

-- whether it waits
abbrev pub along_course_waits : TurnProgress → Bool
along_course_waits (Waits n) = true
along_course_waits _ = false

-- a processor waits exactly if its last call does, and then its block is empty
pub record IsAlongCourse (x : ScriptTurnStage) : Type 0 where
  pub waits : instruction_kinds_end_waiting false x.calls ≡ along_course_waits x.progress
  pub quiet : along_course_waits x.progress ≡ true → x.pending ≡ []

-- each of them
abbrev pub AreAlongCourse : List ScriptTurnStage → Type 0
AreAlongCourse xs = (p : ℕ) (x : ScriptTurnStage) → slice_get xs p ≡ Some x → IsAlongCourse x

-- after an instruction was done it doesn't wait
along_course_done_waits : (section : List Instruction) (n : ℕ) → along_course_waits (script_turn_progress_after section n true) ≡ false
along_course_done_waits section n = by (nat_lt n (length section))
  where
    by : (more : Bool) → along_course_waits (cond more (Next (n + 1)) Passed) ≡ false
    by true = refl
    by false = refl

-- where it is after its turn it is on its course
along_course_after : {a c : ScriptTurnStage} {t : TurnProgress} {b : Bool} (kinds pending : List Kind) → IsAlongCourse a → along_course_waits a.progress ≡ b
    → c ≡ script_turn_stage t (a.calls ++ kinds) pending → instruction_kinds_end_waiting b kinds ≡ along_course_waits t
    → (along_course_waits t ≡ true → pending ≡ []) → IsAlongCourse c
along_course_after {a = a} {t = t} kinds pending was before is waits quiet =
    subst IsAlongCourse (sym is) (record {
      waits = instruction_kinds_end_waiting-append false a.calls kinds ∙ ap (λ w. instruction_kinds_end_waiting w kinds) (was.waits ∙ before) ∙ waits;
      quiet = quiet;
    })

along_course_turned : (s : Plan) (p : ℕ) (section : List Instruction) (h : List Event) {a : ScriptTurnStage} (to : List Event) {c : ScriptTurnStage}
    → IsAlongCourse a → IsScriptTurn s p section h a a.progress to c → IsAlongCourse c
along_course_turned s p section h {a = a} to {c = c} was turn = by a.progress refl turn
  where
    by : (t : TurnProgress) → a.progress ≡ t → IsScriptTurn s p section h a t to c → IsAlongCourse c
    by (Next n) at (inl done) =
        let quiet = along_course_done_waits section n in
        along_course_after done.kinds c.pending was (ap along_course_waits at) done.new_is
        (instruction_kinds_done_waiting (script_turn_instruction section n) done.kinds done.are ∙ sym quiet)
        (λ waits. absurd (false≢true (sym quiet ∙ waits)))
    by (Next n) at (inr begun) =
        along_course_after (begun.first ∷ []) [] was (ap along_course_waits at) begun.new_is
        (instruction_kinds_awaited_wait begun.first begun.last begun.waits).0 (λ waits. refl)
    by (Waits n) at (inl ended) =
        along_course_after (ended.last ∷ []) [] was (ap along_course_waits at) ended.new_is
        ((instruction_kinds_awaited_wait ended.first ended.last ended.waits).1 ∙ sym (along_course_done_waits section n)) (λ waits. refl)
    by (Waits n) at (inr vain) = subst IsAlongCourse (sym vain.new_is) was
    by Passed at none = subst IsAlongCourse (sym none.1) was

pub along_turn_course : {s : Plan} {p : ℕ} {h : List Event} {old : List ScriptTurnStage} {to : List Event} {new : List ScriptTurnStage}
    → AreAlongCourse old → IsScriptTurnAt s p h old to new → AreAlongCourse new
along_turn_course {s = s} {p = p} {h = h} {old = old} {to = to} course turn q x here = elim (cases_eq q p) [
  | inl is ↦ (let found : slice_get (slice_set old p turn.after) p ≡ Some x =
      ap (λ k. slice_get (slice_set old p turn.after) k) (sym is) ∙ set in
      subst IsAlongCourse (slice_get-set_found old p turn.after x found)
      (along_course_turned s p turn.section h to (course p turn.before turn.before_is) turn.turn))
  | inr isnt ↦ course q x (sym (slice_get-set_other old p q turn.after isnt) ∙ set)
]
  where
    set : slice_get (slice_set old p turn.after) q ≡ Some x
    set = ap (λ xs. slice_get xs q) (sym turn.others) ∙ here

-- many turns
pub along_course : (s : Plan) (ps : List ℕ) (h : List Event) (old : List ScriptTurnStage) (to : List Event) (new : List ScriptTurnStage)
    → AreAlongCourse old → AreScriptTurns s ps h old to new → AreAlongCourse new
along_course s [] h old to new course turns = subst AreAlongCourse (sym turns.1) course
along_course s (p ∷ ps) h old to new course turns =
    along_course s ps turns.0 turns.1 to new (along_turn_course course turns.2) turns.3

-- before the first turn
pub along_first_course : (s : Plan) → AreAlongCourse (first_script_turn_stages s)
along_first_course s p x here =
    subst IsAlongCourse (slice_get-replicate_found s.processors (script_turn_stage (Next 0) [] []) x p here)
    (record { waits = refl; quiet = λ waits. refl })

-- two runs by the same turns, from where they are the same
pub along_same : (s : Plan) (ps : List ℕ) {g h : List Event} {xs ys : List ScriptTurnStage} {front beside : List Event} {us vs : List ScriptTurnStage}
    → WellFormed (plan_sizes s) front → WellFormed (plan_sizes s) beside → AreSameTurns g h xs ys
    → AreScriptTurns s ps g xs front us → AreScriptTurns s ps h ys beside vs → AreSameTurns front beside us vs
along_same s [] well also same one other =
    record {
      events = subst₂ SameButValues (sym one.0) (sym other.0) same.events;
      stages = ap (map same_turn_stage_valueless) one.1 ∙ same.stages ∙ sym (ap (map same_turn_stage_valueless) other.1);
    }
along_same s (p ∷ ps) {front = front} {beside = beside} {us = us} {vs = vs} well also same one other =
    let first = along_well_formed s ps one.0 one.1 front us one.3 well in
    let second = along_well_formed s ps other.0 other.1 beside vs other.3 also in
    along_same s ps well also
    (side_turn same (record { well = first; turn = one.2 }) (record { well = second; turn = other.2 })) one.3 other.3

pub along_same_turns_law : SameTurnsLaw
along_same_turns_law s turns g h xs ys well also one other =
    along_same s turns well also (record { events = refl; stages = refl }) one other
