-- Entries of lists of timestamps.
use Rattle.std.proofs.Common.{◌≡◌, ℕ, inl, inr, List, [], replicate, slice_index, ap, ◌∙◌}
use Rattle.std.proofs.lemmas.Bool.{cases_lt}
use Rattle.std.proofs.lemmas.List.{get_or-replicate, get_or_past, length-replicate}
use Rattle.journal.specs.ClockEntry.{entry}

-- each entry of zeros is 0
pub clock_zeros_at : (count q : ℕ) → slice_index (replicate count 0) q ≡ 0
clock_zeros_at count q = elim (cases_lt q count) [
  | inl lt ↦ get_or-replicate count q 0 0 lt
  | inr le ↦ get_or_past (replicate count 0) q 0 (rw (length-replicate {A = ℕ} count 0) le)
]

-- and each entry of timestamps that are all zeros
pub clock_zeros_entry : (xs : List (List ℕ)) (count : ℕ) → xs ≡ replicate count (replicate 16 0) → (n q : ℕ)
    → entry xs n q ≡ 0
clock_zeros_entry xs count is n q = ap (λ ys. entry ys n q) is ∙ elim (cases_lt n count) [
  | inl lt ↦
      ap (λ (ys : List ℕ). slice_index ys q) (get_or-replicate count n (replicate 16 0) [] lt) ∙ clock_zeros_at 16 q
  | inr le ↦ ap (λ (ys : List ℕ). slice_index ys q)
      (get_or_past (replicate count (replicate 16 0)) n []
      (rw (length-replicate {A = List ℕ} count (replicate 16 0)) le))
]
