-- Kinds of instructions, and those that wait.
use Rattle.std.proofs.Common.{◌≡◌, List, [], ◌∷◌, ◌++◌, Bool, true, false, IsTrue, Some, None, refl, sym, ap, ◌∙◌}
use Rattle.std.proofs.lemmas.Option.{none-some, same_Some}
use Rattle.journal.specs.declared.event.Kind.{Kind}
use Rattle.journal.specs.declared.event.Kind.TheVariants as kind
use Rattle.journal.specs.Events.{event_address, event_takes}
use Rattle.journal.specs.AwaitedNext.{awaited_next}
use Rattle.journal.proofs.Journals.AfterDeadlock.{after_deadlock_answers_taking}
use Rattle.journal.proofs.Journals.MayGoOn.{may_go_on_awaited_answers}
use Rattle.lrc_script.specs.declared.script.Instruction.{Instruction}
use Rattle.lrc_script.specs.declared.script.Instruction.TheVariants.{Load, Add}
use Rattle.conformance.specs.InstructionEvents.{AreEventsOfInstruction}
use Rattle.conformance.specs.SameTurns.{same_turn_calls_valueless}
use Rattle.conformance.proofs.Projections.WellFormed.{kind_waits}

-- an instruction's kinds are the same except for values
pub instruction_kinds_same_done : (i : Instruction) (xs ys : List Kind) → AreEventsOfInstruction i xs → AreEventsOfInstruction i ys
    → same_turn_calls_valueless xs ≡ same_turn_calls_valueless ys
instruction_kinds_same_done (Load a) xs ys x y = ap same_turn_calls_valueless x.1 ∙ sym (ap same_turn_calls_valueless y.1)
instruction_kinds_same_done (Add a v) xs ys x y = ap same_turn_calls_valueless x.1 ∙ sym (ap same_turn_calls_valueless y.1)
instruction_kinds_same_done _ xs ys x y = ap same_turn_calls_valueless (x ∙ sym y)

-- a call that waits, and what that waits for
pub instruction_kinds_awaited_taking : (first last : Kind) → awaited_next first ≡ Some last → IsTrue (event_takes last)
instruction_kinds_awaited_taking first last waiting = after_deadlock_answers_taking first last last waiting (may_go_on_awaited_answers first last waiting)

-- neither is an access
pub instruction_kinds_awaited_plain : (first last : Kind) → awaited_next first ≡ Some last → (event_address first ≡ None) × (event_address last ≡ None)
instruction_kinds_awaited_plain (kind.Ask l) last is = (refl, sym (ap event_address (same_Some (kind.Acquire l) last is)))
instruction_kinds_awaited_plain kind.Arrive last is = (refl, sym (ap event_address (same_Some kind.Depart last is)))
instruction_kinds_awaited_plain (kind.Watch f) last is = (refl, sym (ap event_address (same_Some (kind.Await f) last is)))
instruction_kinds_awaited_plain _ last is = absurd (none-some last is)

-- the first one waits, and the last one doesn't
pub instruction_kinds_awaited_wait : (first last : Kind) → awaited_next first ≡ Some last → (kind_waits first ≡ true) × (kind_waits last ≡ false)
instruction_kinds_awaited_wait (kind.Ask l) last is = (refl, sym (ap kind_waits (same_Some (kind.Acquire l) last is)))
instruction_kinds_awaited_wait kind.Arrive last is = (refl, sym (ap kind_waits (same_Some kind.Depart last is)))
instruction_kinds_awaited_wait (kind.Watch f) last is = (refl, sym (ap kind_waits (same_Some (kind.Await f) last is)))
instruction_kinds_awaited_wait _ last is = absurd (none-some last is)

-- an instruction that is begun by a call that waits has just these two
pub instruction_kinds_of_waiting : (i : Instruction) (first last : Kind) (ks : List Kind) → AreEventsOfInstruction i (first ∷ last ∷ [])
    → awaited_next first ≡ Some last → AreEventsOfInstruction i ks → ks ≡ first ∷ last ∷ []
instruction_kinds_of_waiting (Load a) first last ks two waiting are =
    let one : first ∷ last ∷ [] ≡ kind.Load a two.0 ∷ [] = two.1 in absurd (cc)
instruction_kinds_of_waiting (Add a v) first last ks two waiting are =
    let is : first ≡ kind.Load a two.0 = let e = two.1 in cc in
    absurd (none-some last (sym (ap awaited_next is) ∙ waiting))
instruction_kinds_of_waiting _ first last ks two waiting are = are ∙ sym two

-- whether the last of these waits, or what was before them did
abbrev pub instruction_kinds_end_waiting : Bool → List Kind → Bool
instruction_kinds_end_waiting before [] = before
instruction_kinds_end_waiting before (k ∷ ks) = instruction_kinds_end_waiting (kind_waits k) ks

pub instruction_kinds_end_waiting-append : (before : Bool) (xs ys : List Kind) → instruction_kinds_end_waiting before (xs ++ ys) ≡ instruction_kinds_end_waiting (instruction_kinds_end_waiting before xs) ys
instruction_kinds_end_waiting-append before [] ys = refl
instruction_kinds_end_waiting-append before (x ∷ xs) ys = instruction_kinds_end_waiting-append (kind_waits x) xs ys

-- after an instruction none does
pub instruction_kinds_done_waiting : (i : Instruction) (ks : List Kind) → AreEventsOfInstruction i ks → instruction_kinds_end_waiting false ks ≡ false
instruction_kinds_done_waiting (Load a) ks are = ap (instruction_kinds_end_waiting false) are.1
instruction_kinds_done_waiting (Add a v) ks are = ap (instruction_kinds_end_waiting false) are.1
instruction_kinds_done_waiting _ ks are = ap (instruction_kinds_end_waiting false) are
