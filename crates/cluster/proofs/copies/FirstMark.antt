-- The least number that is marked, by a machine word's bits.
use Rattle.std.proofs.Common.{ℕ, ◌≡◌, ◌<◌, ◌≤◌, ◌+◌, ◌-◌, ◌/◌, ◌%◌, ◌^◌, ◌==◌, Bool, true, false, Some, slice_get, length, w64, inl, inr, sym, ap, ◌∙◌, arith}
use Rattle.std.specs.Int.{bit_at, trailing_zeros}
use Rattle.std.proofs.Math.Nat.{div-div-eq-div-mul, div-le_self}
use Rattle.std.proofs.lemmas.Bool.{cases_lt}
use Rattle.std.proofs.lemmas.Nat.{pow-add}
use Rattle.std.proofs.lemmas.Nat.Bits.{bit_at-trailing_zeros, bit_at_above, bit_at-zero}
use Rattle.std.proofs.lemmas.Option.{slice_get-get_or}
use Rattle.page.specs.PageMarks.{page_marks_of}
use Rattle.page.proofs.MarkBits.{mark_bits_length, mark_bit_at}
use Rattle.cluster.specs.Copies.MarkedCopiesAndHarvests.{IsLowestMarkedCopyFrom, LacksMarkedCopyFrom}

-- the mark of a number is its bit
pub first_mark_bit_at : (word n : ℕ) → n < 64 → slice_get (page_marks_of 64 word) n ≡ Some (bit_at word n == 1)
first_mark_bit_at word n below =
    let long = mark_bits_length 64 word in
    let within : n < length (page_marks_of 64 word) = omega arith in
    let is = mark_bit_at 64 word n false below in
    slice_get-get_or (page_marks_of 64 word) n false within ∙ ap (λ (b : Bool). Some b) is

module _ (word start : ℕ) where
  -- the bits of a word that is shifted
  first_mark_shifted : (i : ℕ) → bit_at (word / 2 ^ start) i ≡ bit_at word (start + i)
  first_mark_shifted i =
      let one = div-div-eq-div-mul word (2 ^ start) (2 ^ i) ∙ ap (λ (d : ℕ). word / d) (sym (pow-add 2 start i)) in
      ap (λ (k : ℕ). k % 2) one

  -- a bit from `start` on, by the shifted word
  first_mark_from : (i : ℕ) → start ≤ i → bit_at word i ≡ bit_at (word / 2 ^ start) (i - start)
  first_mark_from i late = ap (λ (k : ℕ). bit_at word k) (omega arith) ∙ sym (first_mark_shifted (i - start))

  -- no bit is left of it
  pub no_first_mark : word / 2 ^ start ≡ 0 → LacksMarkedCopyFrom (page_marks_of 64 word) start
  no_first_mark none i late below =
      let unset = first_mark_from i late ∙ ap (λ (w : ℕ). bit_at w (i - start)) none ∙ bit_at-zero (i - start) in
      first_mark_bit_at word i below ∙ ap (λ (b : ℕ). Some (b == 1)) unset

  -- or the lowest one is that of the least number
  pub first_mark : word < 2 ^ 64 → 0 < word / 2 ^ start
      → IsLowestMarkedCopyFrom (page_marks_of 64 word) start (start + trailing_zeros w64 (word / 2 ^ start))
  first_mark fits some = record { late = omega arith; marked = marked; first = first }
    where
      t : ℕ
      t = trailing_zeros w64 (word / 2 ^ start)

      small : word / 2 ^ start < 2 ^ 64
      small = let le = div-le_self word (2 ^ start) in omega arith

      set : bit_at word (start + t) ≡ 1
      set = sym (first_mark_shifted t) ∙ (bit_at-trailing_zeros w64 (word / 2 ^ start) some small).1

      below : start + t < 64
      below = elim (cases_lt (start + t) 64) [
        | inl within ↦ within
        | inr past ↦ let none = bit_at_above word 64 (start + t) fits past in absurd (omega (arith, none, set))
      ]

      marked : slice_get (page_marks_of 64 word) (start + t) ≡ Some true
      marked = first_mark_bit_at word (start + t) below ∙ ap (λ (b : ℕ). Some (b == 1)) set

      first : (i : ℕ) → start ≤ i → i < start + t → slice_get (page_marks_of 64 word) i ≡ Some false
      first i late early =
          let lowest = (bit_at-trailing_zeros w64 (word / 2 ^ start) some small).2 in
          let unset = first_mark_from i late ∙ lowest (i - start) (omega arith) in
          first_mark_bit_at word i (let within = below in omega arith) ∙ ap (λ (b : ℕ). Some (b == 1)) unset
