-- Which calls begin a section: those that its steps say, one by one.
use Rattle.std.proofs.Common.{ℕ, suc, ◌≡◌, ◌+◌, ◌↔◌, List, [], ◌∷◌, ◌++◌, map, fold, length, Some, slice_get, refl, sym, ap, ap₂, subst, ◌∙◌, arith}
use Rattle.std.specs.Prelude.{◌%◌, ◌^◌}
use Rattle.std.proofs.lemmas.Option.{same_Some, none-some}
use Rattle.journal.specs.declared.event.Kind.{Kind}
use Rattle.journal.specs.declared.event.Kind.TheVariants as kind
use Rattle.lrc_script.specs.declared.script.Instruction.{Instruction}
use Rattle.lrc_script.specs.declared.script.Instruction.TheVariants.{Load, Store, Add, Acquire, Release, Barrier, Set, Await, Cut}
use Rattle.conformance.specs.ScriptBegins.{BeginsSection}
use Rattle.conformance.specs.Follows.{FollowsSection}
use Rattle.conformance.proofs.SectionBegins.{section_begins_front}
use Rattle.conformance.proofs.Script.ScriptSteps.{AreScriptSteps}
use Rattle.conformance.proofs.Script.ScriptSteps.{ScriptStep as AStep, IsScriptStep as IsAStep}
use Rattle.conformance.proofs.Script.ScriptSteps.ScriptStep.{plain, adds}
use Rattle.conformance.proofs.Script.SectionSteps.{section_steps as follows_steps, section_steps_told, section_steps_of as some_steps, section_steps_of_all as all_some_steps, section_steps_of_loads, section_steps_whole}
use Rattle.explore.specs.declared.prefixes.script_call.ScriptCall.{ScriptCall}
use Rattle.explore.specs.declared.prefixes.script_call.ScriptCall.TheVariants.{Call, Adds}
use Rattle.explore.specs.Prefixes.ScriptCalls.{script_calls_of_one, script_calls_of_all, script_call_loads, script_calls_of_section, script_call_reply_after, FitsScriptCall, IsScriptCallNext}

-- the calls are as the steps say, one by one, after this reply
abbrev pub AreSectionCalls : ℕ → List ScriptCall → List Kind → Type 0
AreSectionCalls reply [] [] = Unit {0}
AreSectionCalls reply (s ∷ steps) (k ∷ kinds) = FitsScriptCall reply s k × AreSectionCalls (script_call_reply_after reply k) steps kinds
AreSectionCalls reply _ _ = ⊥

-- the calls begin what the steps say
abbrev pub AreFirstSectionCalls : ℕ → List ScriptCall → List Kind → Type 0
AreFirstSectionCalls reply steps [] = Unit {0}
AreFirstSectionCalls reply [] (k ∷ kinds) = ⊥
AreFirstSectionCalls reply (s ∷ steps) (k ∷ kinds) = FitsScriptCall reply s k × AreFirstSectionCalls (script_call_reply_after reply k) steps kinds

-- steps as those of crate follows
abbrev section_call_in_theirs : ScriptCall → AStep
section_call_in_theirs (Call k) = plain k
section_call_in_theirs (Adds a v) = adds a v

map-append_section_call_in_theirs : (xs ys : List ScriptCall) → map section_call_in_theirs (xs ++ ys) ≡ map section_call_in_theirs xs ++ map section_call_in_theirs ys
map-append_section_call_in_theirs [] ys = refl
map-append_section_call_in_theirs (x ∷ xs) ys = ap (λ zs. section_call_in_theirs x ∷ zs) (map-append_section_call_in_theirs xs ys)

section_calls_theirs_of_instruction : (i : Instruction) → map section_call_in_theirs (script_calls_of_one i) ≡ some_steps i
section_calls_theirs_of_instruction (Load a) = refl
section_calls_theirs_of_instruction (Store a v) = refl
section_calls_theirs_of_instruction (Add a v) = refl
section_calls_theirs_of_instruction (Acquire l) = refl
section_calls_theirs_of_instruction (Release l) = refl
section_calls_theirs_of_instruction Barrier = refl
section_calls_theirs_of_instruction (Set f) = refl
section_calls_theirs_of_instruction (Await f) = refl
section_calls_theirs_of_instruction Cut = refl

section_calls_theirs_of_all : (is : List Instruction) → map section_call_in_theirs (script_calls_of_all is) ≡ all_some_steps is
section_calls_theirs_of_all [] = refl
section_calls_theirs_of_all (i ∷ is) = map-append_section_call_in_theirs (script_calls_of_one i) (script_calls_of_all is) ∙ ap₂ (λ xs ys. xs ++ ys) (section_calls_theirs_of_instruction i) (section_calls_theirs_of_all is)

section_calls_theirs_of_loads : (shown : List ℕ) → map section_call_in_theirs (script_call_loads shown) ≡ section_steps_of_loads shown
section_calls_theirs_of_loads [] = refl
section_calls_theirs_of_loads (a ∷ shown) = ap (λ xs. plain (kind.Load a 0) ∷ xs) (section_calls_theirs_of_loads shown)

section_calls_all_theirs : (section : List Instruction) (shown : List ℕ)
    → map section_call_in_theirs (script_calls_of_section section shown) ≡ section_steps_whole section shown
section_calls_all_theirs section shown =
    map-append_section_call_in_theirs (script_calls_of_all section) (Call kind.Arrive ∷ Call kind.Depart ∷ script_call_loads shown)
    ∙ ap₂ (λ xs ys. xs ++ plain kind.Arrive ∷ plain kind.Depart ∷ ys) (section_calls_theirs_of_all section) (section_calls_theirs_of_loads shown)

section_call_one_theirs : (reply : ℕ) (s : ScriptCall) (k : Kind) → FitsScriptCall reply s k → IsAStep reply (section_call_in_theirs s) k
section_call_one_theirs reply (Call c) k is = is
section_call_one_theirs reply (Adds a v) k is = is

section_call_one_ours : (reply : ℕ) (s : ScriptCall) (k : Kind) → IsAStep reply (section_call_in_theirs s) k → FitsScriptCall reply s k
section_call_one_ours reply (Call c) k is = is
section_call_one_ours reply (Adds a v) k is = is

section_calls_as_theirs : (reply : ℕ) (steps : List ScriptCall) (kinds : List Kind) → AreSectionCalls reply steps kinds
    → AreScriptSteps reply (map section_call_in_theirs steps) kinds
section_calls_as_theirs reply [] [] h = tt
section_calls_as_theirs reply [] (k ∷ kinds) h = absurd h
section_calls_as_theirs reply (s ∷ steps) [] h = absurd h
section_calls_as_theirs reply (s ∷ steps) (k ∷ kinds) h =
    (section_call_one_theirs reply s k h.0, section_calls_as_theirs (script_call_reply_after reply k) steps kinds h.1)

section_calls_ours : (reply : ℕ) (steps : List ScriptCall) (kinds : List Kind) → AreScriptSteps reply (map section_call_in_theirs steps) kinds
    → AreSectionCalls reply steps kinds
section_calls_ours reply [] [] h = tt
section_calls_ours reply [] (k ∷ kinds) h = absurd h
section_calls_ours reply (s ∷ steps) [] h = absurd h
section_calls_ours reply (s ∷ steps) (k ∷ kinds) h =
    (section_call_one_ours reply s k h.0, section_calls_ours (script_call_reply_after reply k) steps kinds h.1)

-- calls follow a section exactly where they are what its steps say
pub section_calls_follow : (section : List Instruction) (shown : List ℕ) (kinds : List Kind)
    → FollowsSection section shown kinds ↔ AreSectionCalls 0 (script_calls_of_section section shown) kinds
section_calls_follow section shown kinds = (
  λ f. section_calls_ours 0 (script_calls_of_section section shown) kinds
      (subst (λ steps. AreScriptSteps 0 steps kinds) (sym (section_calls_all_theirs section shown))
      (follows_steps section shown kinds 0 f)),
  λ h. section_steps_told section shown kinds 0
      (subst (λ steps. AreScriptSteps 0 steps kinds) (section_calls_all_theirs section shown)
      (section_calls_as_theirs 0 (script_calls_of_section section shown) kinds h)),
)

-- some call that a step says
section_calls_some_call : (reply : ℕ) (s : ScriptCall) → (k : Kind) × FitsScriptCall reply s k
section_calls_some_call reply (Call c) = (c, refl)
section_calls_some_call reply (Adds a v) = (kind.Store a ((reply + v) % 2 ^ 32), refl)

section_calls_some : (reply : ℕ) (steps : List ScriptCall) → (kinds : List Kind) × AreSectionCalls reply steps kinds
section_calls_some reply [] = ([], tt)
section_calls_some reply (s ∷ steps) =
    let first = section_calls_some_call reply s in
    let rest = section_calls_some (script_call_reply_after reply first.0) steps in
    (first.0 ∷ rest.0, (first.1, rest.1))

-- what begins them can go on to the end
ends : (reply : ℕ) (steps : List ScriptCall) (kinds : List Kind) → AreFirstSectionCalls reply steps kinds
    → (rest : List Kind) × AreSectionCalls reply steps (kinds ++ rest)
ends reply steps [] h = section_calls_some reply steps
ends reply [] (k ∷ kinds) h = absurd h
ends reply (s ∷ steps) (k ∷ kinds) h =
    let more = ends (script_call_reply_after reply k) steps kinds h.1 in
    (more.0, (h.0, more.1))

section_calls_begun : (reply : ℕ) (steps : List ScriptCall) (kinds rest : List Kind) → AreSectionCalls reply steps (kinds ++ rest)
    → AreFirstSectionCalls reply steps kinds
section_calls_begun reply steps [] rest h = tt
section_calls_begun reply [] (k ∷ kinds) rest h = absurd h
section_calls_begun reply (s ∷ steps) (k ∷ kinds) rest h = (h.0, section_calls_begun (script_call_reply_after reply k) steps kinds rest h.1)

-- calls begin a section exactly where they are its first steps
pub section_calls_are_first : (section : List Instruction) (shown : List ℕ) (kinds : List Kind)
    → BeginsSection section shown kinds ↔ AreFirstSectionCalls 0 (script_calls_of_section section shown) kinds
section_calls_are_first section shown kinds = (
  λ b. section_calls_begun 0 (script_calls_of_section section shown) kinds b.rest ((section_calls_follow section shown (kinds ++ b.rest)).0 b.follows),
  λ h. let more = ends 0 (script_calls_of_section section shown) kinds h in
      record { rest = more.0; follows = (section_calls_follow section shown (kinds ++ more.0)).1 more.1 },
)

-- the step after these calls says the call
record IsNextSectionCall (reply : ℕ) (steps : List ScriptCall) (kinds : List Kind) (k : Kind) : Type 0 where
  step : ScriptCall
  at : slice_get steps (length kinds) ≡ Some step
  is : FitsScriptCall (fold script_call_reply_after reply kinds) step k

section_calls_first_next : (reply : ℕ) (steps : List ScriptCall) (kinds : List Kind) (k : Kind) → AreFirstSectionCalls reply steps (kinds ++ k ∷ [])
    → AreFirstSectionCalls reply steps kinds × IsNextSectionCall reply steps kinds k
section_calls_first_next reply [] [] k h = absurd h
section_calls_first_next reply (s ∷ steps) [] k h = (tt, record { step = s; at = refl; is = h.0 })
section_calls_first_next reply [] (c ∷ kinds) k h = absurd h
section_calls_first_next reply (s ∷ steps) (c ∷ kinds) k h =
    let more = section_calls_first_next (script_call_reply_after reply c) steps kinds k h.1 in
    ((h.0, more.0), record { step = more.1.step; at = more.1.at; is = more.1.is })

section_calls_next_first : (reply : ℕ) (steps : List ScriptCall) (kinds : List Kind) (k : Kind) → AreFirstSectionCalls reply steps kinds
    → IsNextSectionCall reply steps kinds k → AreFirstSectionCalls reply steps (kinds ++ k ∷ [])
section_calls_next_first reply [] [] k h next = absurd (none-some next.step next.at)
section_calls_next_first reply (s ∷ steps) [] k h next =
    (subst (λ x. FitsScriptCall reply x k) (sym (same_Some s next.step next.at)) next.is, tt)
section_calls_next_first reply [] (c ∷ kinds) k h next = absurd h
section_calls_next_first reply (s ∷ steps) (c ∷ kinds) k h next =
    (h.0, section_calls_next_first (script_call_reply_after reply c) steps kinds k h.1 (record { step = next.step; at = next.at; is = next.is }))

-- one call more begins a section exactly where its next step says that
pub section_calls_push : (section : List Instruction) (shown : List ℕ) (kinds : List Kind) (k : Kind)
    → BeginsSection section shown (kinds ++ k ∷ [])
    ↔ (BeginsSection section shown kinds × IsScriptCallNext (script_calls_of_section section shown) kinds k)
section_calls_push section shown kinds k = (
  λ b. let both = section_calls_first_next 0 (script_calls_of_section section shown) kinds k ((section_calls_are_first section shown (kinds ++ k ∷ [])).0 b) in (
    section_begins_front section shown kinds (k ∷ []) b,
    record { step = both.1.step; at = both.1.at; is = both.1.is },
  ),
  λ both. (section_calls_are_first section shown (kinds ++ k ∷ [])).1
      (section_calls_next_first 0 (script_calls_of_section section shown) kinds k ((section_calls_are_first section shown kinds).0 both.0)
      (record { step = both.1.step; at = both.1.at; is = both.1.is })),
)

-- no call begins each section
pub section_calls_start : (section : List Instruction) (shown : List ℕ) → BeginsSection section shown []
section_calls_start section shown = (section_calls_are_first section shown []).1 tt

-- calls that begin a section follow it exactly where they are as many as its steps
pub section_calls_follows_length : (section : List Instruction) (shown : List ℕ) (kinds : List Kind)
    → BeginsSection section shown kinds
    → FollowsSection section shown kinds ↔ (length kinds ≡ length (script_calls_of_section section shown))
section_calls_follows_length section shown kinds begins = (
  λ f. long 0 (script_calls_of_section section shown) kinds ((section_calls_follow section shown kinds).0 f),
  λ is. (section_calls_follow section shown kinds).1
      (all 0 (script_calls_of_section section shown) kinds ((section_calls_are_first section shown kinds).0 begins) is),
)
  where
    long : (reply : ℕ) (steps : List ScriptCall) (ks : List Kind) → AreSectionCalls reply steps ks → length ks ≡ length steps
    long reply [] [] h = refl
    long reply [] (k ∷ ks) h = absurd h
    long reply (s ∷ steps) [] h = absurd h
    long reply (s ∷ steps) (k ∷ ks) h = ap suc (long (script_call_reply_after reply k) steps ks h.1)

    all : (reply : ℕ) (steps : List ScriptCall) (ks : List Kind) → AreFirstSectionCalls reply steps ks → length ks ≡ length steps
        → AreSectionCalls reply steps ks
    all reply [] [] h is = tt
    all reply (s ∷ steps) [] h is = absurd cc
    all reply [] (k ∷ ks) h is = absurd h
    all reply (s ∷ steps) (k ∷ ks) h is = (h.0, all (script_call_reply_after reply k) steps ks h.1 (omega (arith, is)))
