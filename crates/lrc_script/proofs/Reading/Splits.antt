-- What is cut at a separator.
use Rattle.std.proofs.Common.{◌≡◌, ℕ, suc, ◌+◌, ◌≤◌, Bool, true, false, not, cond, ltb, List, [], ◌∷◌, length, take, drop, Some, None, refl, ap, arith}
use Rattle.std.specs.List.{slice_split, position_or_len, onto_first}
use Rattle.std.proofs.lemmas.List.Splits.{slice_split_first}
use Rattle.std.proofs.lemmas.Bool.{ltb-true, ltb-false}

split_past_in : (p : ℕ → Bool) (x : ℕ) (xs : List ℕ) (b : Bool)
    → suc (length xs) ≤ cond (not b) (1 + position_or_len p xs) 0
    → (length xs ≤ position_or_len p xs → slice_split p xs ≡ xs ∷ [])
    → cond b ([] ∷ slice_split p xs) (onto_first x (slice_split p xs)) ≡ (x ∷ xs) ∷ []
split_past_in p x xs true h rest = absurd (omega arith)
split_past_in p x xs false h rest = ap (onto_first x) (rest (omega arith))

-- where no byte passes, the list is the one part
pub slice_split_past : (p : ℕ → Bool) (xs : List ℕ) → length xs ≤ position_or_len p xs → slice_split p xs ≡ xs ∷ []
slice_split_past p [] h = refl
slice_split_past p (x ∷ xs) h = split_past_in p x xs (p x) h (slice_split_past p xs)

-- what a search for the separator tells
pub split_from_some : (p : ℕ → Bool) (xs : List ℕ) (i : ℕ)
    → Some i ≡ cond (ltb (position_or_len p xs) (length xs)) (Some (position_or_len p xs)) None
    → slice_split p xs ≡ take i xs ∷ slice_split p (drop (i + 1) xs)
split_from_some p xs i e =
    elim (ltb (position_or_len p xs) (length xs)) as (λ b. ltb (position_or_len p xs) (length xs) ≡ b
    → Some i ≡ cond b (Some (position_or_len p xs)) None
    → slice_split p xs ≡ take i xs ∷ slice_split p (drop (i + 1) xs)) [
      | true ↦ λ t h. let same : i ≡ position_or_len p xs = cc in rw same (slice_split_first p xs 0 (ltb-true _ _ t))
      | false ↦ λ t h. absurd cc
    ] refl e

pub split_from_none : (p : ℕ → Bool) (xs : List ℕ)
    → None ≡ cond (ltb (position_or_len p xs) (length xs)) (Some (position_or_len p xs)) None
    → slice_split p xs ≡ xs ∷ []
split_from_none p xs e =
    elim (ltb (position_or_len p xs) (length xs)) as (λ b. ltb (position_or_len p xs) (length xs) ≡ b
    → None ≡ cond b (Some (position_or_len p xs)) None → slice_split p xs ≡ xs ∷ []) [
      | true ↦ λ t h. absurd cc
      | false ↦ λ t h. slice_split_past p xs (ltb-false _ _ t)
    ] refl e
