-- What begins a section: the events of its first instructions, and the first event of the next one.
use Rattle.std.proofs.Common.{ℕ, suc, ◌≡◌, List, [], ◌∷◌, ◌++◌, ◌+◌, map, take, drop, refl, sym, ap, subst, slice_get, Some, append_assoc, take-append-drop}
use Rattle.std.specs.Prelude.{◌%◌, ◌^◌}
use Rattle.base.proofs.SlicesAndCounts.{slice_take-suc_at}
use Rattle.journal.specs.declared.event.Kind.{Kind}
use Rattle.journal.specs.declared.event.Kind.TheVariants as kind
use Rattle.lrc_script.specs.declared.script.Instruction.{Instruction}
use Rattle.lrc_script.specs.declared.script.Instruction.TheVariants.{Load, Store, Add, Acquire, Release, Barrier, Set, Await, Cut}
use Rattle.conformance.specs.ScriptBegins.{BeginsSection}
use Rattle.conformance.specs.Follows.{FollowsSection, load_of}
use Rattle.conformance.specs.InstructionEvents.{AreEventsOfInstruction, AreEventsOfInstructions}
use Rattle.conformance.proofs.Instructions.{instructions-append, instructions-push, instructions_follow_section}

-- an instruction has events
section_begins_with_events : (i : Instruction) → (kinds : List Kind) × AreEventsOfInstruction i kinds
section_begins_with_events (Load a) = (kind.Load a 0 ∷ [], (0, refl))
section_begins_with_events (Store a v) = (kind.Store a v ∷ [], refl)
section_begins_with_events (Add a v) = (kind.Load a 0 ∷ kind.Store a ((0 + v) % 2 ^ 32) ∷ [], (0, refl))
section_begins_with_events (Acquire l) = (kind.Ask l ∷ kind.Acquire l ∷ [], refl)
section_begins_with_events (Release l) = (kind.Release l ∷ [], refl)
section_begins_with_events Barrier = (kind.Arrive ∷ kind.Depart ∷ [], refl)
section_begins_with_events (Set f) = (kind.Set f ∷ [], refl)
section_begins_with_events (Await f) = (kind.Watch f ∷ kind.Await f ∷ [], refl)
section_begins_with_events Cut = ([], refl)

-- and so do instructions
section_begins_with_all : (is : List Instruction) → (kinds : List Kind) × AreEventsOfInstructions is kinds
section_begins_with_all [] = ([], refl)
section_begins_with_all (i ∷ is) =
    let first = section_begins_with_events i in
    let rest = section_begins_with_all is in
    (first.0 ++ rest.0, (first.0, rest.0, refl, first.1, rest.1))

-- loads of these addresses
section_begins_with_loads : (addresses : List ℕ) → (loads : List (ℕ × ℕ)) × (map (λ (x : ℕ × ℕ). x.0) loads ≡ addresses)
section_begins_with_loads [] = ([], refl)
section_begins_with_loads (a ∷ addresses) =
    let rest = section_begins_with_loads addresses in
    ((a, 0) ∷ rest.0, ap (λ xs. a ∷ xs) rest.1)

-- what begins a section begins it without its last calls, too
pub section_begins_front : (section : List Instruction) (shown : List ℕ) (xs ys : List Kind)
    → BeginsSection section shown (xs ++ ys) → BeginsSection section shown xs
section_begins_front section shown xs ys begins = record {
  rest = ys ++ begins.rest;
  follows = subst (FollowsSection section shown) (append_assoc xs ys begins.rest) begins.follows;
}

-- the events of all instructions and the closing barrier
pub section_begins_whole : (section : List Instruction) (shown : List ℕ) (kinds : List Kind) → AreEventsOfInstructions section kinds
    → BeginsSection section shown (kinds ++ kind.Arrive ∷ kind.Depart ∷ [])
section_begins_whole section shown kinds are =
    let loads = section_begins_with_loads shown in
    let closing = kind.Arrive ∷ kind.Depart ∷ [] in
    record {
      rest = map load_of loads.0;
      follows = instructions_follow_section section shown ((kinds ++ closing) ++ map load_of loads.0) kinds loads.0 are
          (append_assoc kinds closing (map load_of loads.0)) loads.1;
    }

-- the events of its first n instructions
pub section_begins_after : (section : List Instruction) (shown : List ℕ) (n : ℕ) (kinds : List Kind)
    → AreEventsOfInstructions (take n section) kinds → BeginsSection section shown kinds
section_begins_after section shown n kinds are =
    let more = section_begins_with_all (drop n section) in
    let all = instructions-append (take n section) (drop n section) kinds more.0 are more.1 in
    let P : List Instruction → Type 0 = λ is. AreEventsOfInstructions is (kinds ++ more.0) in
    let whole = section_begins_whole section shown (kinds ++ more.0) (subst P (take-append-drop n section) all) in
    let Q : List Kind → Type 0 = BeginsSection section shown in
    section_begins_front section shown kinds (more.0 ++ kind.Arrive ∷ kind.Depart ∷ [])
    (subst Q (append_assoc kinds more.0 (kind.Arrive ∷ kind.Depart ∷ [])) whole)

-- and the first event of the next instruction, of which that has two
pub section_begins_within : {section : List Instruction} (shown : List ℕ) (n : ℕ) {i : Instruction} (kinds : List Kind) (first last : Kind) → slice_get section n ≡ Some i → AreEventsOfInstructions (take n section) kinds
    → AreEventsOfInstruction i (first ∷ last ∷ []) → BeginsSection section shown (kinds ++ first ∷ [])
section_begins_within {section = section} shown n {i = i} kinds first last at are two =
    let P : List Instruction → Type 0 = λ is. AreEventsOfInstructions is (kinds ++ first ∷ last ∷ []) in
    let more = subst P (sym (slice_take-suc_at section n i at)) (instructions-push (take n section) i kinds (first ∷ last ∷ []) are two) in
    let whole = section_begins_after section shown (suc n) (kinds ++ first ∷ last ∷ []) more in
    let Q : List Kind → Type 0 = BeginsSection section shown in
    section_begins_front section shown (kinds ++ first ∷ []) (last ∷ [])
    (subst Q (sym (append_assoc kinds (first ∷ []) (last ∷ []))) whole)
