-- What had been stored before a place, by steps.
use Rattle.std.proofs.Common.{ℕ, zero, suc, ◌≡◌, ◌<◌, ◌≤◌, inl, inr, cond, nat_lt, List, [], ◌∷◌, ◌++◌, Some, slice_get, refl, sym, ap, ◌∙◌, subst, arith}
use Rattle.std.proofs.lemmas.Bool.{cases_lt, lt-ltb, le-ltb}
use Rattle.std.proofs.lemmas.Option.{none-some, same_Some}
use Rattle.base.specs.InOrderOnce.{Has}
use Rattle.judge.specs.declared.stored_steps.StoredAmounts.{StoredAmounts}
use Rattle.judge.specs.declared.stored_steps.StoredStep.{StoredStep}
use Rattle.judge.specs.StoredSteps.{HasStoredStepFrom, stored_before}

pub stored_before_below : (x : StoredStep) (steps : List StoredStep) (all : StoredAmounts) (v : ℕ) → x.place < v
    → stored_before (x ∷ steps) all v ≡ stored_before steps all v
stored_before_below x steps all v lt = ap (λ b. cond b (stored_before steps all v) x.before) (lt-ltb x.place v lt)

pub stored_before_here : (x : StoredStep) (steps : List StoredStep) (all : StoredAmounts) (v : ℕ) → v ≤ x.place
    → stored_before (x ∷ steps) all v ≡ x.before
stored_before_here x steps all v le = ap (λ b. cond b (stored_before steps all v) x.before) (le-ltb x.place v le)

-- where each step before this index is below the place, and the step there isn't
pub stored_before_from : (steps : List StoredStep) (all : StoredAmounts) (v i : ℕ) (y : StoredStep)
    → ((n : ℕ) (x : StoredStep) → n < i → slice_get steps n ≡ Some x → x.place < v) → slice_get steps i ≡ Some y → v ≤ y.place
    → stored_before steps all v ≡ y.before
stored_before_from [] all v i y below at le = absurd (none-some y at)
stored_before_from (x ∷ steps) all v zero y below at le =
    let same = same_Some x y at in
    stored_before_here x steps all v (subst (λ (z : StoredStep). v ≤ z.place) (sym same) le)
    ∙ ap (λ (z : StoredStep). z.before) same
stored_before_from (x ∷ steps) all v (suc i) y below at le =
    stored_before_below x steps all v (below 0 x (omega arith) refl)
    ∙ stored_before_from steps all v i y (λ n z lt here. below (suc n) z (omega arith) here) at le

-- where all are below it
pub stored_before_all : (steps : List StoredStep) (all : StoredAmounts) (v : ℕ)
    → ((x : StoredStep) → Has steps x → x.place < v) → stored_before steps all v ≡ all
stored_before_all [] all v below = refl
stored_before_all (x ∷ steps) all v below =
    stored_before_below x steps all v (below x (0, refl))
    ∙ stored_before_all steps all v (λ y h. below y (suc h.0, h.1))

-- a step more that isn't below it
pub stored_before_push : (steps : List StoredStep) (x : StoredStep) (all : StoredAmounts) (v : ℕ) → v ≤ x.place
    → stored_before (steps ++ x ∷ []) all v ≡ stored_before steps x.before v
stored_before_push [] x all v le = stored_before_here x [] all v le
stored_before_push (y ∷ steps) x all v le =
    ap (λ z. cond (nat_lt y.place v) z y.before) (stored_before_push steps x all v le)

-- a step from it on is behind those below it
pub stored_before_later : (x : StoredStep) (steps : List StoredStep) (v : ℕ) → HasStoredStepFrom (x ∷ steps) v → x.place < v
    → HasStoredStepFrom steps v
stored_before_later x steps v h lt = later h.has.0 h.has.1
  where
    later : (i : ℕ) → slice_get (x ∷ steps) i ≡ Some h.step → HasStoredStepFrom steps v
    later zero at =
        let same = same_Some x h.step at in
        let from = h.from in
        absurd (let Q : StoredStep → Type 0 = λ z. v ≤ z.place in let le = subst Q (sym same) from in omega (arith, le, lt))
    later (suc i) at = record { step = h.step; has = (i, at); from = h.from }

-- where a step isn't below it, the total doesn't matter
pub stored_before_any : (steps : List StoredStep) (all other : StoredAmounts) (v : ℕ) → HasStoredStepFrom steps v
    → stored_before steps all v ≡ stored_before steps other v
stored_before_any [] all other v h = absurd (none-some h.step h.has.1)
stored_before_any (x ∷ steps) all other v h = elim (cases_lt x.place v) [
  | inl lt ↦
      stored_before_below x steps all v lt ∙ stored_before_any steps all other v (stored_before_later x steps v h lt)
      ∙ sym (stored_before_below x steps other v lt)
  | inr le ↦ stored_before_here x steps all v le ∙ sym (stored_before_here x steps other v le)
]
