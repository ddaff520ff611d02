-- What is said of each row of a list, at its place.
use Rattle.std.proofs.Common.{◌≡◌, ℕ, inl, inr, List, [], ◌∷◌, ◌++◌, Some, length, slice_get, subst, arith}
use Rattle.base.proofs.SlicesAndCounts.{slice_push_cases}

-- each row is as P says of its place
abbrev pub AreRows : {A : Type 0} → (ℕ → A → Type 0) → List A → Type 0
AreRows {A} P rows = (k : ℕ) (row : A) → slice_get rows k ≡ Some row → P k row

-- a row more
pub rows_next : {A : Type 0} (P : ℕ → A → Type 0) (rows : List A) (n : ℕ) (row : A) → length rows ≡ n → AreRows P rows
    → P n row → AreRows P (rows ++ row ∷ [])
rows_next {A} P rows n row long are now k other at = elim (slice_push_cases rows row k other at) [
  | inl old ↦ are k other old.1
  | inr last ↦
      (let is : n ≡ k = omega (arith, last.0) in
      subst (P k) last.1 (subst (λ m. P m row) is now))
]
