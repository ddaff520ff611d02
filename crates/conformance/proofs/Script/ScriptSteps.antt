-- What a script says of each call of a processor, but for the replies of loads.
use Rattle.std.proofs.Common.{ℕ, ◌≡◌, ◌+◌, ◌%◌, ◌^◌, List, [], ◌∷◌, ◌++◌, map, refl, ap}
use Rattle.journal.specs.declared.event.Kind.{Kind}
use Rattle.journal.specs.declared.event.Kind.TheVariants.{Load, Store}

-- the call is this one, for a load with any reply; or the store of an add, of the reply before it and this addend
pub data ScriptStep : Type 0 where
  plain : Kind → ScriptStep
  adds : ℕ → ℕ → ScriptStep

-- the kind, with 0 for the reply of a load
abbrev pub script_step_without_reply : Kind → Kind
script_step_without_reply (Load a v) = Load a 0
script_step_without_reply k = k

-- the reply that was given last
abbrev pub script_step_reply_after : ℕ → Kind → ℕ
script_step_reply_after reply (Load a v) = v
script_step_reply_after reply k = reply

-- the call is as the step says, where this reply was given last
abbrev pub IsScriptStep : ℕ → ScriptStep → Kind → Type 0
IsScriptStep reply (plain k) made = script_step_without_reply made ≡ script_step_without_reply k
IsScriptStep reply (adds a v) made = made ≡ Store a ((reply + v) % 2 ^ 32)

-- the calls are as the steps say, one by one
abbrev pub AreScriptSteps : ℕ → List ScriptStep → List Kind → Type 0
AreScriptSteps reply [] [] = Unit {0}
AreScriptSteps reply (s ∷ steps) (k ∷ kinds) = IsScriptStep reply s k × AreScriptSteps (script_step_reply_after reply k) steps kinds
AreScriptSteps reply _ _ = ⊥

-- any calls are as they say themselves
pub plain_script_steps : (reply : ℕ) (kinds : List Kind) → AreScriptSteps reply (map plain kinds) kinds
plain_script_steps reply [] = tt
plain_script_steps reply (k ∷ kinds) = (refl, plain_script_steps (script_step_reply_after reply k) kinds)

-- where there are no calls, the last reply doesn't matter
pub no_script_steps : (reply other : ℕ) (steps : List ScriptStep) → AreScriptSteps reply steps [] → AreScriptSteps other steps []
no_script_steps reply other [] h = h
no_script_steps reply other (s ∷ steps) h = absurd h

-- steps that don't ask for a reply before them, after others
pub script_steps-append : (reply : ℕ) (steps more : List ScriptStep) (xs ys : List Kind) → AreScriptSteps reply steps xs
    → ((last : ℕ) → AreScriptSteps last more ys) → AreScriptSteps reply (steps ++ more) (xs ++ ys)
script_steps-append reply [] more [] ys h then = then reply
script_steps-append reply [] more (k ∷ xs) ys h then = absurd h
script_steps-append reply (s ∷ steps) more [] ys h then = absurd h
script_steps-append reply (s ∷ steps) more (k ∷ xs) ys h then =
    (h.0, script_steps-append (script_step_reply_after reply k) steps more xs ys h.1 then)

-- calls as the one steps say, and then the others
pub record AreScriptStepHalves (reply : ℕ) (steps more : List ScriptStep) (kinds : List Kind) : Type 0 where
  pub front : List Kind
  pub rest : List Kind
  pub last : ℕ
  pub are : kinds ≡ front ++ rest
  pub first : AreScriptSteps reply steps front
  pub second : AreScriptSteps last more rest

pub script_step_halves : (reply : ℕ) (steps more : List ScriptStep) (kinds : List Kind) → AreScriptSteps reply (steps ++ more) kinds
    → AreScriptStepHalves reply steps more kinds
script_step_halves reply [] more kinds h =
    record { front = []; rest = kinds; last = reply; are = refl; first = tt; second = h }
script_step_halves reply (s ∷ steps) more [] h = absurd h
script_step_halves reply (s ∷ steps) more (k ∷ kinds) h =
    let x = script_step_halves (script_step_reply_after reply k) steps more kinds h.1 in
    record {
      front = k ∷ x.front;
      rest = x.rest;
      last = x.last;
      are = ap (λ ks. k ∷ ks) x.are;
      first = (h.0, x.first);
      second = x.second;
    }

-- the call of one step
pub record IsOneScriptStep (reply : ℕ) (s : ScriptStep) (kinds : List Kind) : Type 0 where
  pub call : Kind
  pub are : kinds ≡ call ∷ []
  pub is : IsScriptStep reply s call

pub one_script_step : (reply : ℕ) (s : ScriptStep) (kinds : List Kind) → AreScriptSteps reply (s ∷ []) kinds → IsOneScriptStep reply s kinds
one_script_step reply s [] h = absurd h
one_script_step reply s (k ∷ []) h = record { call = k; are = refl; is = h.0 }
one_script_step reply s (k ∷ l ∷ kinds) h = absurd h.1

-- the calls of two
pub record AreTwoScriptSteps (reply : ℕ) (s t : ScriptStep) (kinds : List Kind) : Type 0 where
  pub first : Kind
  pub second : Kind
  pub are : kinds ≡ first ∷ second ∷ []
  pub first_is : IsScriptStep reply s first
  pub second_is : IsScriptStep (script_step_reply_after reply first) t second

pub two_script_steps : (reply : ℕ) (s t : ScriptStep) (kinds : List Kind) → AreScriptSteps reply (s ∷ t ∷ []) kinds
    → AreTwoScriptSteps reply s t kinds
two_script_steps reply s t [] h = absurd h
two_script_steps reply s t (k ∷ []) h = absurd h.1
two_script_steps reply s t (k ∷ l ∷ []) h =
    record { first = k; second = l; are = refl; first_is = h.0; second_is = h.1.0 }
two_script_steps reply s t (k ∷ l ∷ m ∷ kinds) h = absurd h.1.1
