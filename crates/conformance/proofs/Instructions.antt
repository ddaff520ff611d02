-- The events of instructions, put together.
use Rattle.std.proofs.Common.{ℕ, ◌≡◌, List, [], ◌∷◌, ◌++◌, filter, map, refl, sym, ap, ◌∙◌, append_assoc, append-nil}
use Rattle.std.specs.Prelude.{not}
use Rattle.journal.specs.declared.event.Kind.{Kind}
use Rattle.journal.specs.declared.event.Kind.TheVariants as kind
use Rattle.lrc_script.specs.declared.script.Instruction.{Instruction}
use Rattle.lrc_script.specs.declared.script.Instruction.TheVariants.{Load, Store, Add, Acquire, Release, Barrier, Set, Await, Cut}
use Rattle.conformance.specs.InstructionEvents.{AreEventsOfInstruction, AreEventsOfInstructions}
use Rattle.conformance.specs.Follows.{is_fetch, load_of, FollowsSection}

-- the events of these instructions, and of those that come after them
pub instructions-append : (is js : List Instruction) (xs ys : List Kind) → AreEventsOfInstructions is xs → AreEventsOfInstructions js ys
    → AreEventsOfInstructions (is ++ js) (xs ++ ys)
instructions-append [] js xs ys first second = rw first second
instructions-append (i ∷ is) js xs ys first second = (
  first.0,
  first.1 ++ ys,
  ap (λ ks. ks ++ ys) first.2 ∙ append_assoc first.0 first.1 ys,
  first.3,
  instructions-append is js first.1 ys first.4 second,
)

-- the events of one instruction are those of it alone
pub instructions-one : (i : Instruction) (ks : List Kind) → AreEventsOfInstruction i ks → AreEventsOfInstructions (i ∷ []) ks
instructions-one i ks are = (ks, [], sym (append-nil ks), are, refl)

-- and of one instruction more
pub instructions-push : (is : List Instruction) (i : Instruction) (xs ks : List Kind) → AreEventsOfInstructions is xs → AreEventsOfInstruction i ks
    → AreEventsOfInstructions (is ++ i ∷ []) (xs ++ ks)
instructions-push is i xs ks front last = instructions-append is (i ∷ []) xs ks front (instructions-one i ks last)

-- a section's events, the closing barrier and the loads of what is shown follow the section
pub instructions_follow_section : (section : List Instruction) (shown : List ℕ) (kinds own : List Kind) (loads : List (ℕ × ℕ))
    → AreEventsOfInstructions section own → kinds ≡ own ++ kind.Arrive ∷ kind.Depart ∷ map load_of loads
    → map (λ (x : ℕ × ℕ). x.0) loads ≡ shown → FollowsSection section shown kinds
instructions_follow_section section shown kinds own loads are is addresses =
    record { own = own; loads = loads; kinds_are = is; follows = are; addresses_are = addresses }

-- none of these is a fetch
abbrev pub NoInstructionFetches : List Kind → Type 0
NoInstructionFetches kinds = filter (λ k. not (is_fetch k)) kinds ≡ kinds

pub instruction_no_fetch : (i : Instruction) (kinds : List Kind) → AreEventsOfInstruction i kinds → NoInstructionFetches kinds
instruction_no_fetch (Load a) kinds are = rw are.1 refl
instruction_no_fetch (Store a v) kinds are = rw are refl
instruction_no_fetch (Add a v) kinds are = rw are.1 refl
instruction_no_fetch (Acquire l) kinds are = rw are refl
instruction_no_fetch (Release l) kinds are = rw are refl
instruction_no_fetch Barrier kinds are = rw are refl
instruction_no_fetch (Set f) kinds are = rw are refl
instruction_no_fetch (Await f) kinds are = rw are refl
instruction_no_fetch Cut kinds are = rw are refl
