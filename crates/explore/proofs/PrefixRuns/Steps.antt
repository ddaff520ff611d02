-- Steps of sections, a part at a time.
use Rattle.std.proofs.Common.{ℕ, zero, suc, ◌≡◌, ◌+◌, List, [], ◌∷◌, ◌++◌, take, refl, sym, ap, ◌∙◌, Some, slice_get, append_assoc, append-nil, add-one}
use Rattle.std.specs.Global.{Vec}
use Rattle.std.proofs.lemmas.Option.{none-some, same_Some}
use Rattle.base.proofs.SlicesAndCounts.{slice_take-suc_at}
use Rattle.journal.specs.declared.event.Kind.TheVariants as kind
use Rattle.lrc_script.specs.declared.script.Instruction.{Instruction}
use Rattle.lrc_script.specs.Plan.{Plan, plan_sections}
use Rattle.explore.specs.declared.prefixes.script_call.ScriptCall.{ScriptCall}
use Rattle.explore.specs.declared.prefixes.script_call.ScriptCall.TheVariants.{Call}
use Rattle.explore.specs.Prefixes.ScriptCalls.{script_calls_of_one, script_calls_of_all, script_call_loads, script_calls_of_section, script_calls_shown_by}

prefix_steps_all-push : (is : List Instruction) (i : Instruction)
    → script_calls_of_all (is ++ i ∷ []) ≡ script_calls_of_all is ++ script_calls_of_one i
prefix_steps_all-push [] i = append-nil (script_calls_of_one i)
prefix_steps_all-push (h ∷ is) i =
    ap (λ rest. script_calls_of_one h ++ rest) (prefix_steps_all-push is i)
    ∙ sym (append_assoc (script_calls_of_one h) (script_calls_of_all is) (script_calls_of_one i))

prefix_steps_loads-push : (shown : List ℕ) (a : ℕ) → script_call_loads (shown ++ a ∷ []) ≡ script_call_loads shown ++ Call (kind.Load a 0) ∷ []
prefix_steps_loads-push [] a = refl
prefix_steps_loads-push (b ∷ shown) a = ap (λ rest. Call (kind.Load b 0) ∷ rest) (prefix_steps_loads-push shown a)

-- the steps of one instruction more
pub prefix_steps_one_more : (is : List Instruction) (n : ℕ) (i : Instruction) → slice_get is n ≡ Some i
    → script_calls_of_all (take (n + 1) is) ≡ script_calls_of_all (take n is) ++ script_calls_of_one i
prefix_steps_one_more is n i at = rw (add-one, slice_take-suc_at is n i at) (prefix_steps_all-push (take n is) i)

-- one load more, after other steps
pub prefix_steps_loads_more : (steps : List ScriptCall) (shown : List ℕ) (n a : ℕ) → slice_get shown n ≡ Some a
    → steps ++ script_call_loads (take (n + 1) shown) ≡ (steps ++ script_call_loads (take n shown)) ++ Call (kind.Load a 0) ∷ []
prefix_steps_loads_more steps shown n a at =
    rw (add-one, slice_take-suc_at shown n a at) (ap (λ rest. steps ++ rest) (prefix_steps_loads-push (take n shown) a)
    ∙ sym (append_assoc steps (script_call_loads (take n shown)) (Call (kind.Load a 0) ∷ [])))

-- the same, of what was collected
pub prefix_steps_collected_next : (old new : List ScriptCall) (is : List Instruction) (n : ℕ) (i : Instruction) → slice_get is n ≡ Some i
    → old ≡ script_calls_of_all (take n is) → new ≡ old ++ script_calls_of_one i → new ≡ script_calls_of_all (take (n + 1) is)
prefix_steps_collected_next old new is n i at was now = now ∙ ap (λ steps. steps ++ script_calls_of_one i) was ∙ sym (prefix_steps_one_more is n i at)

pub prefix_steps_loads_next : (steps old new : List ScriptCall) (shown : List ℕ) (n a : ℕ) → slice_get shown n ≡ Some a
    → old ≡ steps ++ script_call_loads (take n shown) → new ≡ old ++ Call (kind.Load a 0) ∷ []
    → new ≡ steps ++ script_call_loads (take (n + 1) shown)
prefix_steps_loads_next steps old new shown n a at was now =
    now ∙ ap (λ xs. xs ++ Call (kind.Load a 0) ∷ []) was ∙ sym (prefix_steps_loads_more steps shown n a at)

-- each of these rows has the steps of its section
abbrev pub ArePrefixRowsOfSteps : Plan → List (Vec ScriptCall) → Type 0
ArePrefixRowsOfSteps s rows = (p : ℕ) (section : List Instruction) (row : Vec ScriptCall) → slice_get s.sections p ≡ Some section
    → slice_get rows p ≡ Some row → row.items ≡ script_calls_of_section section (script_calls_shown_by s p)

-- a section of the plan is one in memory
pub prefix_steps_plan_at : (sections : List (Vec Instruction)) (n : ℕ) (section : Vec Instruction)
    → slice_get sections n ≡ Some section → slice_get (plan_sections sections) n ≡ Some section.items
prefix_steps_plan_at [] n section at = absurd (none-some section at)
prefix_steps_plan_at (first ∷ sections) zero section at = ap (λ (v : Vec Instruction). Some v.items) (same_Some first section at)
prefix_steps_plan_at (first ∷ sections) (suc n) section at = prefix_steps_plan_at sections n section at
