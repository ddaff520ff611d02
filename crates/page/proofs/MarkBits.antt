-- The marks that a machine word's bits are.
use Rattle.std.proofs.Common.{ℕ, zero, suc, ◌≡◌, ◌<◌, ◌≤◌, ◌*◌, ◌/◌, ◌%◌, ◌^◌, ◌==◌, Bool, true, false, List, ◌∷◌, length, get_or, set, replicate, bit_or, w64, refl, sym, ap, ◌∙◌, arith, inl, inr}
use Rattle.std.specs.Int.{bit_at}
use Rattle.std.proofs.lemmas.Nat.Bits.{bit_at_lowest, bit_at-suc, bit_at-lt, bit_at-zero, bit_at_set_same, bit_at_set_other, same_from_bits}
use Rattle.std.proofs.lemmas.List.{same_lists, length-set, get_or-set_same, get_or-set_other, get_or-replicate}
use Rattle.std.proofs.lemmas.Bool.{cases_lt, cases_eq}
use Rattle.std.proofs.lemmas.Bool.Decides.{nat_tests}
use Rattle.page.specs.PageMarks.{page_marks_of, PageMarksBelow}

-- a word with no bit set marks nothing
pub mark_bits_zero : (n : ℕ) → page_marks_of n 0 ≡ replicate n false
mark_bits_zero zero = refl
mark_bits_zero (suc n) = ap (λ (ms : List Bool). false ∷ ms) (mark_bits_zero n)

pub mark_bits_length : (n word : ℕ) → length (page_marks_of n word) ≡ n
mark_bits_length zero word = refl
mark_bits_length (suc n) word = ap suc (mark_bits_length n (word / 2))

-- the mark at k is bit k
pub mark_bit_at : (n word k : ℕ) (d : Bool) → k < n → get_or (page_marks_of n word) k d ≡ (bit_at word k == 1)
mark_bit_at zero word k d lt = absurd (omega arith)
mark_bit_at (suc n) word zero d lt = ap (λ (b : ℕ). b == 1) (sym (bit_at_lowest word))
mark_bit_at (suc n) word (suc k) d lt =
    mark_bit_at n (word / 2) k d (omega arith) ∙ ap (λ (b : ℕ). b == 1) (sym (bit_at-suc word k))

-- to set bit k is to set the mark at k
pub mark_bits_set : (n word k : ℕ) → k < n → n ≤ 64
    → page_marks_of n (bit_or word (1 * 2 ^ k % 2 ^ 64)) ≡ set (page_marks_of n word) k true
mark_bits_set n word k lt few =
    same_lists _ _ (mark_bits_length n (bit_or word (1 * 2 ^ k % 2 ^ 64))
    ∙ sym (length-set (page_marks_of n word) k true ∙ mark_bits_length n word))
    (λ i d within. at i d (let e = mark_bits_length n (bit_or word (1 * 2 ^ k % 2 ^ 64)) in omega arith))
  where
    at : (i : ℕ) (d : Bool) → i < n
        → get_or (page_marks_of n (bit_or word (1 * 2 ^ k % 2 ^ 64))) i d ≡ get_or (set (page_marks_of n word) k true) i d
    at i d within =
        elim (cases_eq i k) [
          | inl same ↦
              mark_bit_at n (bit_or word (1 * 2 ^ k % 2 ^ 64)) i d within
              ∙ ap (λ (m : ℕ). bit_at (bit_or word (1 * 2 ^ k % 2 ^ 64)) m == 1) same
              ∙ ap (λ (b : ℕ). b == 1) (bit_at_set_same w64 word k (omega arith))
              ∙ sym (ap (λ (m : ℕ). get_or (set (page_marks_of n word) k true) m d) same
              ∙ get_or-set_same (page_marks_of n word) k true d (let e = mark_bits_length n word in omega arith))
          | inr other ↦
              mark_bit_at n (bit_or word (1 * 2 ^ k % 2 ^ 64)) i d within
              ∙ ap (λ (b : ℕ). b == 1) (bit_at_set_other w64 word k (omega arith) i other)
              ∙ sym (get_or-set_other (page_marks_of n word) k i true d other ∙ mark_bit_at n word i d within)
        ]

-- to set bit k sets none from n on
pub mark_bits_below_set : (n word k : ℕ) → k < n → n ≤ 64 → PageMarksBelow n word → PageMarksBelow n (bit_or word (1 * 2 ^ k % 2 ^ 64))
mark_bits_below_set n word k lt few below i le = bit_at_set_other w64 word k (omega arith) i (omega arith) ∙ below i le

-- a word that marks nothing is 0
pub mark_bits_zero_from_clean : (n word : ℕ) → PageMarksBelow n word → page_marks_of n word ≡ replicate n false → word ≡ 0
mark_bits_zero_from_clean n word below clean = same_from_bits word 0 (λ i. unset i ∙ sym (bit_at-zero i))
  where
    unset : (i : ℕ) → bit_at word i ≡ 0
    unset i =
        elim (cases_lt i n) [
          | inl within ↦
              let no : (bit_at word i == 1) ≡ false =
              sym (mark_bit_at n word i false within) ∙ ap (λ (ms : List Bool). get_or ms i false) clean
              ∙ get_or-replicate n i false false within in
              let two = bit_at-lt word i in
              grind (arith, nat_tests)
          | inr past ↦ below i past
        ]
