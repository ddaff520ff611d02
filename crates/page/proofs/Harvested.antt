-- The dirty words, one after another.
use Rattle.std.proofs.Common.{ℕ, zero, suc, ◌≡◌, ◌<◌, ◌+◌, ◌/◌, ◌%◌, ◌^◌, ◌==◌, Bool, false, List, [], ◌∷◌, ◌++◌, append_assoc, length, get_or, drop, w64, refl, sym, ap, ◌∙◌, subst, arith, inl, inr}
use Rattle.std.specs.Int.{bit_at, trailing_zeros}
use Rattle.std.proofs.Math.Nat.{div-div-eq-div-mul, pow-succ'}
use Rattle.std.proofs.lemmas.Nat.Bits.{bit_at_lowest, bit_at-suc, bit_at-trailing_zeros}
use Rattle.std.proofs.lemmas.List.{length-drop, drop-drop, get_or-drop}
use Rattle.std.proofs.lemmas.Bool.{cases_lt, eq-eqb}
use Rattle.std.proofs.lemmas.Option.{slice_get_within}
use Rattle.base.specs.AppliedRecords.{harvest}
use Rattle.base.proofs.MarkedWrites.{marked_writes_harvest_found}
use Rattle.page.specs.CarriedHarvests.{CarriedHarvestFits}
use Rattle.page.specs.PageMarks.{page_marks_of, PageMarksBelow}

-- halves of halves
harvest_half_again : (word s : ℕ) → word / 2 / 2 ^ s ≡ word / 2 ^ suc s
harvest_half_again word s = div-div-eq-div-mul word 2 (2 ^ s) ∙ ap (λ (d : ℕ). word / d) (sym (pow-succ' 2 s))

-- the bits of a word that is shifted by s
harvest_bit_shifted : (word s i : ℕ) → bit_at (word / 2 ^ s) i ≡ bit_at word (s + i)
harvest_bit_shifted word zero i = ap (λ (w : ℕ). bit_at w i) (omega arith) ∙ ap (λ (k : ℕ). bit_at word k) (omega arith)
harvest_bit_shifted word (suc s) i =
    ap (λ (w : ℕ). bit_at w i) (sym (harvest_half_again word s))
    ∙ harvest_bit_shifted (word / 2) s i
    ∙ sym (bit_at-suc word (s + i))
    ∙ ap (λ (k : ℕ). bit_at word k) (omega arith)

-- the first dirty word, and those behind it
pub harvest_first : (s o : ℕ) (words : List ℕ) (rest : ℕ) → s < length words → ((i : ℕ) → i < s → bit_at rest i ≡ 0)
    → bit_at rest s ≡ 1
    → harvest o words (page_marks_of (length words) rest)
    ≡ (o + s, get_or words s 0)
    ∷ harvest (suc (o + s)) (drop (suc s) words) (page_marks_of (length (drop (suc s) words)) (rest / 2 ^ s / 2))
harvest_first s o [] rest within none one = absurd (omega arith)
harvest_first zero o (w ∷ words) rest within none one =
    ap (λ (b : Bool). harvest o (w ∷ words) (b ∷ page_marks_of (length words) (rest / 2)))
    (eq-eqb (rest % 2) 1 (sym (bit_at_lowest rest) ∙ one))
    ∙ ap (λ (k : ℕ). (k, w) ∷ harvest (suc k) words (page_marks_of (length words) (rest / 2))) (omega arith)
    ∙ ap (λ (r : ℕ). (o + 0, w) ∷ harvest (suc (o + 0)) words (page_marks_of (length words) (r / 2))) (omega arith)
harvest_first (suc s) o (w ∷ words) rest within none one =
    ap (λ (b : Bool). harvest o (w ∷ words) (b ∷ page_marks_of (length words) (rest / 2)))
    (eq-eqb_not (sym (bit_at_lowest rest) ∙ none 0 (omega arith)))
    ∙ harvest_first s (suc o) words (rest / 2) (omega arith)
    (λ i lt. sym (bit_at-suc rest i) ∙ none (suc i) (omega arith)) (sym (bit_at-suc rest s) ∙ one)
    ∙ ap (λ (k : ℕ). (k, get_or words s 0)
    ∷ harvest (suc k) (drop (suc s) words) (page_marks_of (length (drop (suc s) words)) (rest / 2 / 2 ^ s / 2)))
    (omega arith)
    ∙ ap (λ (r : ℕ). (o + suc s, get_or words s 0)
    ∷ harvest (suc (o + suc s)) (drop (suc s) words) (page_marks_of (length (drop (suc s) words)) (r / 2)))
    (harvest_half_again rest s)
  where
    eq-eqb_not : rest % 2 ≡ 0 → (rest % 2 == 1) ≡ false
    eq-eqb_not e = ap (λ (r : ℕ). r == 1) e

-- what is left after the first dirty word has no bit past the words that are left
pub harvest_rest_below : (s : ℕ) (words : List ℕ) (rest : ℕ) → PageMarksBelow (length words) rest
    → PageMarksBelow (length (drop (suc s) words)) (rest / 2 ^ s / 2)
harvest_rest_below s words rest below i le =
    sym (bit_at-suc (rest / 2 ^ s) i) ∙ harvest_bit_shifted rest s (suc i)
    ∙ below (s + suc i) (let e = length-drop (suc s) words in omega arith)

-- the first dirty word lies among the words
pub harvest_first_within : (words : List ℕ) (rest : ℕ) → 0 < rest → rest < 2 ^ 64 → PageMarksBelow (length words) rest
    → trailing_zeros w64 rest < length words
harvest_first_within words rest some fits below =
    let first = bit_at-trailing_zeros w64 rest some fits in
    elim (cases_lt (trailing_zeros w64 rest) (length words)) [
      | inl within ↦ within
      | inr past ↦ let none = below (trailing_zeros w64 rest) past in absurd (omega arith)
    ]

-- harvested offsets lie among the words
pub harvest_fits : (words : List ℕ) (marks : List Bool) → CarriedHarvestFits (length words) (harvest 0 words marks)
harvest_fits words marks x has =
    let found = marked_writes_harvest_found 0 words marks has.0 x.0 x.1 has.1 in
    let within = slice_get_within words found.0 x.1 found.2 in
    let offset = found.1 in
    omega arith

-- one step: the first dirty word joins those found
pub harvest_found_more : (found : List (ℕ × ℕ)) (words : List ℕ) (all : List (ℕ × ℕ)) (o rest : ℕ) → 0 < rest → rest < 2 ^ 64
    → PageMarksBelow (length (drop o words)) rest
    → found ++ harvest o (drop o words) (page_marks_of (length (drop o words)) rest) ≡ all
    → let s = trailing_zeros w64 rest in
    (found ++ (o + s, get_or words (o + s) 0) ∷ [])
    ++ harvest (o + s + 1) (drop (o + s + 1) words)
    (page_marks_of (length (drop (o + s + 1) words)) (rest / 2 ^ s / 2))
    ≡ all
harvest_found_more found words all o rest some fits below so_far =
    let s = trailing_zeros w64 rest in
    let first = bit_at-trailing_zeros w64 rest some fits in
    let left = drop (o + s + 1) words in
    let same : drop (suc s) (drop o words) ≡ left =
    drop-drop (suc s) o words ∙ ap (λ (k : ℕ). drop k words) (omega arith) in
    append_assoc found ((o + s, get_or words (o + s) 0) ∷ [])
    (harvest (o + s + 1) left (page_marks_of (length left) (rest / 2 ^ s / 2)))
    ∙ ap (λ (k : ℕ). found ++ (o + s, get_or words (o + s) 0)
    ∷ harvest k left (page_marks_of (length left) (rest / 2 ^ s / 2)))
    (omega arith)
    ∙ ap (λ (ws : List ℕ). found ++ (o + s, get_or words (o + s) 0)
    ∷ harvest (suc (o + s)) ws (page_marks_of (length ws) (rest / 2 ^ s / 2)))
    (sym same)
    ∙ ap (λ (w : ℕ). found ++ (o + s, w)
    ∷ harvest (suc (o + s)) (drop (suc s) (drop o words))
    (page_marks_of (length (drop (suc s) (drop o words))) (rest / 2 ^ s / 2)))
    (sym (get_or-drop o words s 0))
    ∙ ap (λ (ws : List (ℕ × ℕ)). found ++ ws) (sym
    (harvest_first s o (drop o words) rest (harvest_first_within (drop o words) rest some fits below) first.2 first.1))
    ∙ so_far

pub harvest_below_more : (words : List ℕ) (o rest : ℕ) → PageMarksBelow (length (drop o words)) rest
    → let s = trailing_zeros w64 rest in
    PageMarksBelow (length (drop (o + s + 1) words)) (rest / 2 ^ s / 2)
harvest_below_more words o rest below =
    let s = trailing_zeros w64 rest in
    let same : drop (suc s) (drop o words) ≡ drop (o + s + 1) words =
    drop-drop (suc s) o words ∙ ap (λ (k : ℕ). drop k words) (omega arith) in
    let P : List ℕ → Type 0 = λ ws. PageMarksBelow (length ws) (rest / 2 ^ s / 2) in
    subst P same (harvest_rest_below s (drop o words) rest below)

-- nothing is left of a word with no bit set
pub harvest-none : (o : ℕ) (words : List ℕ) → harvest o words (page_marks_of (length words) 0) ≡ []
harvest-none o [] = refl
harvest-none o (w ∷ words) = harvest-none (suc o) words
