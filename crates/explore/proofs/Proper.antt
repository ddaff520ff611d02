-- Steps of lawful scripts: their numbers are in range, and none is a fetch.
use Rattle.std.proofs.Common.{ℕ, ◌<◌, inl, inr, List, [], ◌∷◌, ◌++◌, All, refl, subst}
use Rattle.std.proofs.lemmas.List.Elements.{All-head, All-tail}
use Rattle.base.specs.InOrderOnce.{Has}
use Rattle.base.proofs.JoinedLists.{joined_list_has-nil, joined_list_has-cons, joined_list_has-append}
use Rattle.journal.specs.declared.event.Kind.TheVariants as kind
use Rattle.lrc_script.specs.declared.script.Instruction.{Instruction}
use Rattle.lrc_script.specs.declared.script.Instruction.TheVariants.{Load, Store, Add, Acquire, Release, Barrier, Set, Await, Cut}
use Rattle.lrc_script.specs.Plan.{Plan}
use Rattle.lrc_script.specs.Lawful.{plan_addresses, IsInstructionInRange}
use Rattle.explore.specs.declared.prefixes.script_call.ScriptCall.{ScriptCall}
use Rattle.explore.specs.declared.prefixes.script_call.ScriptCall.TheVariants.{Call, Adds}
use Rattle.explore.specs.Prefixes.ScriptCalls.{script_call_loads, script_calls_of_section, script_calls_of_one, script_calls_of_all}
use Rattle.explore.specs.Machines.{IsProperMachineStep}

-- each of these steps is proper
abbrev pub AreProper : Plan → List ScriptCall → Type 0
AreProper s steps = (x : ScriptCall) → Has steps x → IsProperMachineStep s x

none_proper : (s : Plan) → AreProper s []
none_proper s x has = absurd (joined_list_has-nil x has)

more_proper : (s : Plan) (y : ScriptCall) (steps : List ScriptCall) → IsProperMachineStep s y → AreProper s steps → AreProper s (y ∷ steps)
more_proper s y steps first rest x has =
    elim ((joined_list_has-cons y steps x).0 has) [ inl is ↦ subst (IsProperMachineStep s) is first | inr later ↦ rest x later ]

append_proper : (s : Plan) (xs ys : List ScriptCall) → AreProper s xs → AreProper s ys → AreProper s (xs ++ ys)
append_proper s xs ys first rest x has =
    elim ((joined_list_has-append xs ys x).0 has) [ inl before ↦ first x before | inr later ↦ rest x later ]

one : (s : Plan) (x : ScriptCall) → IsProperMachineStep s x → AreProper s (x ∷ [])
one s x is = more_proper s x [] is (none_proper s)

two_proper : (s : Plan) (x y : ScriptCall) → IsProperMachineStep s x → IsProperMachineStep s y → AreProper s (x ∷ y ∷ [])
two_proper s x y first second = more_proper s x (y ∷ []) first (one s y second)

proper_of : (s : Plan) (i : Instruction) → IsInstructionInRange s i → AreProper s (script_calls_of_one i)
proper_of s (Load a) range = one s (Call (kind.Load a 0)) (range, refl)
proper_of s (Store a v) range = one s (Call (kind.Store a v)) (range.0, refl)
proper_of s (Add a v) range = two_proper s (Call (kind.Load a 0)) (Adds a v) (range.0, refl) range.0
proper_of s (Acquire l) range = two_proper s (Call (kind.Ask l)) (Call (kind.Acquire l)) (range, refl) (range, refl)
proper_of s (Release l) range = one s (Call (kind.Release l)) (range, refl)
proper_of s Barrier range = two_proper s (Call kind.Arrive) (Call kind.Depart) (tt, refl) (tt, refl)
proper_of s (Set f) range = one s (Call (kind.Set f)) (range, refl)
proper_of s (Await f) range = two_proper s (Call (kind.Watch f)) (Call (kind.Await f)) (range, refl) (range, refl)
proper_of s Cut range = none_proper s

proper_of_all : (s : Plan) (is : List Instruction) → All (IsInstructionInRange s) is → AreProper s (script_calls_of_all is)
proper_of_all s [] range = none_proper s
proper_of_all s (i ∷ is) range =
    append_proper s (script_calls_of_one i) (script_calls_of_all is) (proper_of s i (All-head (IsInstructionInRange s) i is range))
    (proper_of_all s is (All-tail (IsInstructionInRange s) i is range))

proper_loads : (s : Plan) (shown : List ℕ) → All (λ a. a < plan_addresses s) shown → AreProper s (script_call_loads shown)
proper_loads s [] range = none_proper s
proper_loads s (a ∷ shown) range =
    more_proper s (Call (kind.Load a 0)) (script_call_loads shown) (All-head (λ b. b < plan_addresses s) a shown range, refl)
    (proper_loads s shown (All-tail (λ b. b < plan_addresses s) a shown range))

-- so are those of a section, whatever it shows of the addresses
pub proper_section : (s : Plan) (section : List Instruction) (shown : List ℕ) → All (IsInstructionInRange s) section
    → All (λ a. a < plan_addresses s) shown → AreProper s (script_calls_of_section section shown)
proper_section s section shown range words =
    append_proper s (script_calls_of_all section) (Call kind.Arrive ∷ Call kind.Depart ∷ script_call_loads shown)
    (proper_of_all s section range)
    (more_proper s (Call kind.Arrive) (Call kind.Depart ∷ script_call_loads shown) (tt, refl)
    (more_proper s (Call kind.Depart) (script_call_loads shown) (tt, refl) (proper_loads s shown words)))
