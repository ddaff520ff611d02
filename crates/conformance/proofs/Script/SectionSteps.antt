-- A section as steps: calls are a section's exactly where they are as its steps say.
use Rattle.std.proofs.Common.{ℕ, ◌≡◌, ◌+◌, ◌%◌, ◌^◌, Bool, true, false, List, [], ◌∷◌, ◌++◌, map, refl, sym, ap, ap₂, subst, ◌∙◌}
use Rattle.std.proofs.lemmas.Bool.{false≢true}
use Rattle.journal.specs.declared.event.Kind.{Kind}
use Rattle.journal.specs.declared.event.Kind.TheVariants as kind
use Rattle.lrc_script.specs.declared.script.Instruction.{Instruction}
use Rattle.lrc_script.specs.declared.script.Instruction.TheVariants.{Load, Store, Add, Acquire, Release, Barrier, Set, Await, Cut}
use Rattle.conformance.specs.InstructionEvents.{AreEventsOfInstruction, AreEventsOfInstructions}
use Rattle.conformance.specs.Follows.{load_of, FollowsSection}
use Rattle.conformance.proofs.Script.ScriptSteps.{ScriptStep, script_step_without_reply, script_step_reply_after, IsScriptStep, AreScriptSteps, script_steps-append, script_step_halves, one_script_step, two_script_steps}
use Rattle.conformance.proofs.Script.ScriptSteps.ScriptStep.{plain, adds}

-- what an instruction says of its calls
abbrev pub section_steps_of : Instruction → List ScriptStep
section_steps_of (Load a) = plain (kind.Load a 0) ∷ []
section_steps_of (Store a v) = plain (kind.Store a v) ∷ []
section_steps_of (Add a v) = plain (kind.Load a 0) ∷ adds a v ∷ []
section_steps_of (Acquire l) = plain (kind.Ask l) ∷ plain (kind.Acquire l) ∷ []
section_steps_of (Release l) = plain (kind.Release l) ∷ []
section_steps_of Barrier = plain kind.Arrive ∷ plain kind.Depart ∷ []
section_steps_of (Set f) = plain (kind.Set f) ∷ []
section_steps_of (Await f) = plain (kind.Watch f) ∷ plain (kind.Await f) ∷ []
section_steps_of Cut = []

abbrev pub section_steps_of_all : List Instruction → List ScriptStep
section_steps_of_all [] = []
section_steps_of_all (i ∷ is) = section_steps_of i ++ section_steps_of_all is

-- and the loads of what is shown
abbrev pub section_steps_of_loads : List ℕ → List ScriptStep
section_steps_of_loads [] = []
section_steps_of_loads (a ∷ shown) = plain (kind.Load a 0) ∷ section_steps_of_loads shown

-- all that a processor calls
abbrev pub section_steps_whole : List Instruction → List ℕ → List ScriptStep
section_steps_whole section shown = section_steps_of_all section ++ plain kind.Arrive ∷ plain kind.Depart ∷ section_steps_of_loads shown

section_steps_of_instruction : (i : Instruction) (kinds : List Kind) (reply : ℕ) → AreEventsOfInstruction i kinds
    → AreScriptSteps reply (section_steps_of i) kinds
section_steps_of_instruction (Load a) kinds reply are = rw are.1 (refl, tt)
section_steps_of_instruction (Store a v) kinds reply are = rw are (refl, tt)
section_steps_of_instruction (Add a v) kinds reply are = rw are.1 (refl, (refl, tt))
section_steps_of_instruction (Acquire l) kinds reply are = rw are (refl, (refl, tt))
section_steps_of_instruction (Release l) kinds reply are = rw are (refl, tt)
section_steps_of_instruction Barrier kinds reply are = rw are (refl, (refl, tt))
section_steps_of_instruction (Set f) kinds reply are = rw are (refl, tt)
section_steps_of_instruction (Await f) kinds reply are = rw are (refl, (refl, tt))
section_steps_of_instruction Cut kinds reply are = rw are tt

section_steps_all : (is : List Instruction) (kinds : List Kind) (reply : ℕ) → AreEventsOfInstructions is kinds
    → AreScriptSteps reply (section_steps_of_all is) kinds
section_steps_all [] kinds reply are = rw are tt
section_steps_all (i ∷ is) kinds reply are =
    let first = section_steps_of_instruction i are.0 reply are.3 in
    let more : (last : ℕ) → AreScriptSteps last (section_steps_of_all is) are.1 = λ last. section_steps_all is are.1 last are.4 in
    rw are.2 (script_steps-append reply (section_steps_of i) (section_steps_of_all is) are.0 are.1 first more)

section_steps_loads : (loads : List (ℕ × ℕ)) (reply : ℕ)
    → AreScriptSteps reply (section_steps_of_loads (map (λ (x : ℕ × ℕ). x.0) loads)) (map load_of loads)
section_steps_loads [] reply = tt
section_steps_loads (x ∷ loads) reply = (refl, section_steps_loads loads x.1)

-- what follows a section is as its steps say
pub section_steps : (section : List Instruction) (shown : List ℕ) (kinds : List Kind) (reply : ℕ)
    → FollowsSection section shown kinds → AreScriptSteps reply (section_steps_whole section shown) kinds
section_steps section shown kinds reply f =
    let rest : List ℕ → List ScriptStep = λ addresses. plain kind.Arrive ∷ plain kind.Depart ∷ section_steps_of_loads addresses in
    let ends : List Kind = kind.Arrive ∷ kind.Depart ∷ map load_of f.loads in
    let end : (last : ℕ) → AreScriptSteps last (rest shown) ends =
    λ last. rw (← f.addresses_are) (refl, (refl, section_steps_loads f.loads last)) in
    let own = section_steps_all section f.own reply f.follows in
    rw f.kinds_are (script_steps-append reply (section_steps_of_all section) (rest shown) f.own ends own end)

abbrev pub is_load_of_section_steps : Kind → Bool
is_load_of_section_steps (kind.Load a v) = true
is_load_of_section_steps k = false

-- a call that is no load's is as its step says
pub section_step_told : (k c : Kind) → script_step_without_reply k ≡ c → is_load_of_section_steps c ≡ false → k ≡ c
section_step_told (kind.Load a v) c e none = absurd (false≢true (sym none ∙ ap is_load_of_section_steps (sym e)))
section_step_told _ c e none = e

-- and a load's but for its reply
pub section_step_load_told : (k : Kind) (a : ℕ) → script_step_without_reply k ≡ kind.Load a 0 → (v : ℕ) × (k ≡ kind.Load a v)
section_step_load_told (kind.Load b v) a e = (v, cc)
section_step_load_told _ a e = absurd (cc)

section_step_one_told : (reply : ℕ) (c : Kind) (kinds : List Kind) → script_step_without_reply c ≡ c → is_load_of_section_steps c ≡ false
    → AreScriptSteps reply (plain c ∷ []) kinds → kinds ≡ c ∷ []
section_step_one_told reply c kinds whole none h =
    let x = one_script_step reply (plain c) kinds h in
    x.are ∙ ap (λ k. k ∷ []) (section_step_told x.call c (x.is ∙ whole) none)

section_steps_two_told : (reply : ℕ) (c d : Kind) (kinds : List Kind) → script_step_without_reply c ≡ c → script_step_without_reply d ≡ d → is_load_of_section_steps c ≡ false
    → is_load_of_section_steps d ≡ false → AreScriptSteps reply (plain c ∷ plain d ∷ []) kinds → kinds ≡ c ∷ d ∷ []
section_steps_two_told reply c d kinds first second none neither h =
    let x = two_script_steps reply (plain c) (plain d) kinds h in
    x.are ∙ ap₂ (λ k l. k ∷ l ∷ []) (section_step_told x.first c (x.first_is ∙ first) none)
    (section_step_told x.second d (x.second_is ∙ second) neither)

section_step_one_load_told : (reply a : ℕ) (kinds : List Kind) → AreScriptSteps reply (plain (kind.Load a 0) ∷ []) kinds
    → (v : ℕ) × (kinds ≡ kind.Load a v ∷ [])
section_step_one_load_told reply a kinds h =
    let x = one_script_step reply (plain (kind.Load a 0)) kinds h in
    let load = section_step_load_told x.call a x.is in
    (load.0, x.are ∙ ap (λ k. k ∷ []) load.1)

section_steps_add_told : (reply a v : ℕ) (kinds : List Kind) → AreScriptSteps reply (plain (kind.Load a 0) ∷ adds a v ∷ []) kinds
    → (w : ℕ) × (kinds ≡ kind.Load a w ∷ kind.Store a ((w + v) % 2 ^ 32) ∷ [])
section_steps_add_told reply a v kinds h =
    let x = two_script_steps reply (plain (kind.Load a 0)) (adds a v) kinds h in
    let load = section_step_load_told x.first a x.first_is in
    let P : Kind → Type 0 = λ k. IsScriptStep (script_step_reply_after reply k) (adds a v) x.second in
    (load.0, x.are ∙ ap₂ (λ k l. k ∷ l ∷ []) load.1 (subst P load.1 x.second_is))

section_steps_instruction_told : (i : Instruction) (kinds : List Kind) (reply : ℕ) → AreScriptSteps reply (section_steps_of i) kinds
    → AreEventsOfInstruction i kinds
section_steps_instruction_told (Load a) kinds reply h = section_step_one_load_told reply a kinds h
section_steps_instruction_told (Store a v) kinds reply h = section_step_one_told reply (kind.Store a v) kinds refl refl h
section_steps_instruction_told (Add a v) kinds reply h = section_steps_add_told reply a v kinds h
section_steps_instruction_told (Acquire l) kinds reply h = section_steps_two_told reply (kind.Ask l) (kind.Acquire l) kinds refl refl refl refl h
section_steps_instruction_told (Release l) kinds reply h = section_step_one_told reply (kind.Release l) kinds refl refl h
section_steps_instruction_told Barrier kinds reply h = section_steps_two_told reply kind.Arrive kind.Depart kinds refl refl refl refl h
section_steps_instruction_told (Set f) kinds reply h = section_step_one_told reply (kind.Set f) kinds refl refl h
section_steps_instruction_told (Await f) kinds reply h = section_steps_two_told reply (kind.Watch f) (kind.Await f) kinds refl refl refl refl h
section_steps_instruction_told Cut [] reply h = refl
section_steps_instruction_told Cut (k ∷ kinds) reply h = absurd h

section_steps_all_told : (is : List Instruction) (kinds : List Kind) (reply : ℕ) → AreScriptSteps reply (section_steps_of_all is) kinds
    → AreEventsOfInstructions is kinds
section_steps_all_told [] [] reply h = refl
section_steps_all_told [] (k ∷ kinds) reply h = absurd h
section_steps_all_told (i ∷ is) kinds reply h =
    let x = script_step_halves reply (section_steps_of i) (section_steps_of_all is) kinds h in
    (x.front, x.rest, x.are, section_steps_instruction_told i x.front reply x.first, section_steps_all_told is x.rest x.last x.second)

-- loads of these addresses
record AreLoadsOfSectionSteps (shown : List ℕ) (kinds : List Kind) : Type 0 where
  loads : List (ℕ × ℕ)
  are : kinds ≡ map load_of loads
  addresses_are : map (λ (x : ℕ × ℕ). x.0) loads ≡ shown

section_steps_loads_told : (shown : List ℕ) (kinds : List Kind) (reply : ℕ) → AreScriptSteps reply (section_steps_of_loads shown) kinds
    → AreLoadsOfSectionSteps shown kinds
section_steps_loads_told [] [] reply h = record { loads = []; are = refl; addresses_are = refl }
section_steps_loads_told [] (k ∷ kinds) reply h = absurd h
section_steps_loads_told (a ∷ shown) [] reply h = absurd h
section_steps_loads_told (a ∷ shown) (k ∷ kinds) reply h =
    let load = section_step_load_told k a h.0 in
    let rest = section_steps_loads_told shown kinds (script_step_reply_after reply k) h.1 in
    record {
      loads = (a, load.0) ∷ rest.loads;
      are = ap₂ (λ l ls. l ∷ ls) load.1 rest.are;
      addresses_are = ap (λ others. a ∷ others) rest.addresses_are;
    }

-- the closing barrier, and then loads
record AreEndOfSectionSteps (shown : List ℕ) (kinds : List Kind) : Type 0 where
  rest : List Kind
  are : kinds ≡ kind.Arrive ∷ kind.Depart ∷ rest
  loads : AreLoadsOfSectionSteps shown rest

section_steps_end_told : (shown : List ℕ) (kinds : List Kind) (reply : ℕ)
    → AreScriptSteps reply (plain kind.Arrive ∷ plain kind.Depart ∷ section_steps_of_loads shown) kinds → AreEndOfSectionSteps shown kinds
section_steps_end_told shown [] reply h = absurd h
section_steps_end_told shown (k ∷ []) reply h = absurd h.1
section_steps_end_told shown (k ∷ l ∷ rest) reply h =
    record {
      rest = rest;
      are = ap₂ (λ x y. x ∷ y ∷ rest) (section_step_told k kind.Arrive h.0 refl) (section_step_told l kind.Depart h.1.0 refl);
      loads = section_steps_loads_told shown rest (script_step_reply_after (script_step_reply_after reply k) l) h.1.1;
    }

-- what is as a section's steps say follows it
pub section_steps_told : (section : List Instruction) (shown : List ℕ) (kinds : List Kind) (reply : ℕ)
    → AreScriptSteps reply (section_steps_whole section shown) kinds → FollowsSection section shown kinds
section_steps_told section shown kinds reply h =
    let x = script_step_halves reply (section_steps_of_all section) (plain kind.Arrive ∷ plain kind.Depart ∷ section_steps_of_loads shown) kinds h in
    let end = section_steps_end_told shown x.rest x.last x.second in
    record {
      own = x.front;
      loads = end.loads.loads;
      kinds_are = x.are ∙ ap (λ ks. x.front ++ ks) (end.are ∙ ap (λ ks. kind.Arrive ∷ kind.Depart ∷ ks) end.loads.are);
      follows = section_steps_all_told section x.front reply x.first;
      addresses_are = end.loads.addresses_are;
    }
