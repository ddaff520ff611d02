-- Places of a list from which one item is left out, and of the whole.
use Rattle.std.proofs.Common.{ℕ, zero, suc, ◌≡◌, ◌≢◌, ◌<◌, ◌≤◌, ◌⊎◌, inl, inr, List, [], ◌∷◌, ◌++◌, length, slice_get, Some, refl, sym, ap, ◌∙◌, arith}
use Rattle.std.proofs.lemmas.Option.{same_Some}
use Rattle.std.proofs.lemmas.Bool.{cases_eq}

-- where place k lies in the whole, when place n is left out
abbrev pub removal_place_lift : ℕ → ℕ → ℕ
removal_place_lift zero k = suc k
removal_place_lift (suc n) zero = zero
removal_place_lift (suc n) (suc k) = suc (removal_place_lift n k)

-- a place before n stays
pub removal_place_lift_before : (n k : ℕ) → k < n → removal_place_lift n k ≡ k
removal_place_lift_before zero k h = absurd (omega arith)
removal_place_lift_before (suc n) zero h = refl
removal_place_lift_before (suc n) (suc k) h = ap suc (removal_place_lift_before n k (omega arith))

-- the others move by one
pub removal_place_lift_behind : (n k : ℕ) → n ≤ k → removal_place_lift n k ≡ suc k
removal_place_lift_behind zero k h = refl
removal_place_lift_behind (suc n) zero h = absurd (omega arith)
removal_place_lift_behind (suc n) (suc k) h = ap suc (removal_place_lift_behind n k (omega arith))

-- their order stays
pub removal_place_lift_less : (n i k : ℕ) → i < k → removal_place_lift n i < removal_place_lift n k
removal_place_lift_less zero i k h = omega arith
removal_place_lift_less (suc n) zero zero h = absurd (omega arith)
removal_place_lift_less (suc n) zero (suc k) h = omega arith
removal_place_lift_less (suc n) (suc i) zero h = absurd (omega arith)
removal_place_lift_less (suc n) (suc i) (suc k) h = let less = removal_place_lift_less n i k (omega arith) in omega arith

pub removal_place_less_lift : (n i k : ℕ) → removal_place_lift n i < removal_place_lift n k → i < k
removal_place_less_lift zero i k h = omega arith
removal_place_less_lift (suc n) zero zero h = absurd (omega arith)
removal_place_less_lift (suc n) zero (suc k) h = omega arith
removal_place_less_lift (suc n) (suc i) zero h = absurd (omega arith)
removal_place_less_lift (suc n) (suc i) (suc k) h = let less = removal_place_less_lift n i k (omega arith) in omega arith

-- each place but n comes from one
pub removal_place_lowered : (n m : ℕ) → m ≢ n → (k : ℕ) × (removal_place_lift n k ≡ m)
removal_place_lowered zero zero h = absurd (h refl)
removal_place_lowered zero (suc m) h = (m, refl)
removal_place_lowered (suc n) zero h = (zero, refl)
removal_place_lowered (suc n) (suc m) h = let low = removal_place_lowered n m (λ e. h (ap suc e)) in (suc low.0, ap suc low.1)

-- the item that is left out stands at its place
pub removal_place_item_out : {A : Type 0} (xs ys : List A) (x : A) → slice_get (xs ++ x ∷ ys) (length xs) ≡ Some x
removal_place_item_out [] ys x = refl
removal_place_item_out (y ∷ xs) ys x = removal_place_item_out xs ys x

-- and each other one at its own
pub removal_place_item_lift : {A : Type 0} (xs ys : List A) (x : A) (k : ℕ)
    → slice_get (xs ++ x ∷ ys) (removal_place_lift (length xs) k) ≡ slice_get (xs ++ ys) k
removal_place_item_lift [] ys x k = refl
removal_place_item_lift (y ∷ xs) ys x zero = refl
removal_place_item_lift (y ∷ xs) ys x (suc k) = removal_place_item_lift xs ys x k

-- the item z, at place m of the whole, is left
pub record RemovalLeftAtPlace {A : Type 0} (xs ys : List A) (m : ℕ) (z : A) : Type 0 where
  pub place : ℕ
  pub lifted : removal_place_lift (length xs) place ≡ m
  pub at : slice_get (xs ++ ys) place ≡ Some z

-- an item of the whole is the one that is left out, or is left
pub removal_place_cases : {A : Type 0} (xs ys : List A) (x : A) (m : ℕ) (z : A) → slice_get (xs ++ x ∷ ys) m ≡ Some z
    → (x ≡ z) ⊎ RemovalLeftAtPlace xs ys m z
removal_place_cases xs ys x m z at = elim (cases_eq m (length xs)) [
  | inl is ↦ inl (same_Some x z (sym (removal_place_item_out xs ys x) ∙ ap (slice_get (xs ++ x ∷ ys)) (sym is) ∙ at))
  | inr isnt ↦
      (let low = removal_place_lowered (length xs) m isnt in
      inr (record {
        place = low.0;
        lifted = low.1;
        at = sym (removal_place_item_lift xs ys x low.0) ∙ ap (slice_get (xs ++ x ∷ ys)) low.1 ∙ at;
      }))
]
