-- Outcomes that a search has noted, each with what shows it.
use Rattle.std.specs.Prelude.{ℕ, ◌≡◌, ◌++◌, ◌⊎◌, List, [], ◌∷◌, map}
use Rattle.base.specs.InOrderOnce.{Has}
use Rattle.explore.specs.declared.outcomes.answer.ScriptOutcome.{ScriptOutcome}
use Rattle.explore.specs.Explored.{explored_outcome}

-- the outcomes alone
abbrev pub noted_outcomes : {V : Type 0} → List (ScriptOutcome × V) → List (List (List ℕ))
noted_outcomes {V} es = map (λ (e : ScriptOutcome × V). explored_outcome e.0) es

-- this is one of these outcomes, or put at their end, with what has P
abbrev pub IsNotedOutcome : {V : Type 0} → List (ScriptOutcome × V) → List (ScriptOutcome × V) → List (List ℕ) → (V → Type 0) → Type 0
IsNotedOutcome {V} old new x P =
    (Has (noted_outcomes old) x × (new ≡ old))
    ⊎ ((e : ScriptOutcome × V) × (¬ Has (noted_outcomes old) x) × (explored_outcome e.0 ≡ x) × P e.1 × (new ≡ old ++ e ∷ []))
