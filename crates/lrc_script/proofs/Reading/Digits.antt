-- Digits summed as they come.
use Rattle.std.proofs.Common.{◌≡◌, ℕ, ◌+◌, ◌*◌, ◌-◌, ◌^◌, ◌<◌, ◌≤◌, Bool, true, false, cond, ◌&&◌, ltb, List, length, get_or, take, Some, None, inl, inr, refl, sym, ap, ◌∙◌, arith}
use Rattle.std.specs.Char.{is_ascii_digit, digit_value}
use Rattle.std.specs.List.{list_all}
use Rattle.std.specs.Str.Parse.{digits_value}
use Rattle.std.proofs.lemmas.Bool.{lt-ltb, le-ltb, cases_lt}
use Rattle.std.proofs.lemmas.Bool.Decides.{nat_tests}
use Rattle.std.proofs.lemmas.List.Folds.{list_all_more}
use Rattle.std.proofs.Math.Seq.{take-length}
use Rattle.std.proofs.lemmas.Int.Digits.{digits_value_more}
use Rattle.std.proofs.lemmas.Str.Parse.{digits_value-take-le}
use Rattle.lrc_script.specs.LineReading.{line_read_digit_sum}

digit_is : (b : ℕ) → is_ascii_digit b ≡ true → digit_value b ≡ b - 48
digit_is b h = grind (arith, nat_tests, h)

-- one more digit
pub digits_more : (w : List ℕ) (i : ℕ) → i < length w → list_all is_ascii_digit (take i w) ≡ true
    → is_ascii_digit (get_or w i 0) ≡ true → list_all is_ascii_digit (take (i + 1) w) ≡ true
digits_more w i lt h b = rw (list_all_more is_ascii_digit w i 0 lt) (rw (h, b) refl)

pub digits_sum_more : (w : List ℕ) (i : ℕ) → i < length w → is_ascii_digit (get_or w i 0) ≡ true
    → digits_value 10 (take (i + 1) w) ≡ digits_value 10 (take i w) * 10 + (get_or w i 0 - 48)
digits_sum_more w i lt b = rw (digits_value_more 10 w i lt) (rw (digit_is (get_or w i 0) b) refl)

-- a sum that is too great already
digits_and_false : {X : Type 0} (a b : Bool) (x y : X) → b ≡ false → cond (a && b) x y ≡ y
digits_and_false true b x y e = rw e refl
digits_and_false false b x y e = refl

pub digits_sum_past : (w : List ℕ) (i : ℕ) → 2 ^ 32 ≤ digits_value 10 (take i w) → line_read_digit_sum w ≡ None
digits_sum_past w i big =
    digits_and_false (list_all is_ascii_digit w) (ltb (digits_value 10 w) (2 ^ 32)) _ _
    (le-ltb _ _ (omega (arith, digits_value-take-le 10 w i (omega arith), big)))

pub digits_sum_past_mul : (w : List ℕ) (i s : ℕ) → i < length w → is_ascii_digit (get_or w i 0) ≡ true
    → s ≡ digits_value 10 (take i w) → (s * 10 < 2 ^ 32 → ⊥) → line_read_digit_sum w ≡ None
digits_sum_past_mul w i s lt b is big = elim (cases_lt (s * 10) (2 ^ 32)) [
  | inl small ↦ absurd (big small)
  | inr le ↦ digits_sum_past w (i + 1) (omega (arith, digits_sum_more w i lt b, is, le))
]

pub digits_sum_past_add : (w : List ℕ) (i s : ℕ) → i < length w → is_ascii_digit (get_or w i 0) ≡ true
    → s ≡ digits_value 10 (take i w) → (s * 10 + (get_or w i 0 - 48) < 2 ^ 32 → ⊥) → line_read_digit_sum w ≡ None
digits_sum_past_add w i s lt b is big = elim (cases_lt (s * 10 + (get_or w i 0 - 48)) (2 ^ 32)) [
  | inl small ↦ absurd (big small)
  | inr le ↦ digits_sum_past w (i + 1) (omega (arith, digits_sum_more w i lt b, is, le))
]

-- the sum of all
pub digits_sum_some : (w : List ℕ) → list_all is_ascii_digit w ≡ true → digits_value 10 w < 2 ^ 32
    → line_read_digit_sum w ≡ Some (digits_value 10 w)
digits_sum_some w h lt = let small = lt-ltb _ _ lt in rw (h, small) refl

pub digits_sum_all : (w : List ℕ) (i s : ℕ) → i ≡ length w → list_all is_ascii_digit (take i w) ≡ true
    → s ≡ digits_value 10 (take i w) → s < 2 ^ 32 → Some s ≡ line_read_digit_sum w
digits_sum_all w i s le h is lt =
    let all : take i w ≡ w = ap (λ (n : ℕ). take n w) le ∙ take-length w in
    let whole : s ≡ digits_value 10 w = is ∙ ap (digits_value 10) all in
    ap (λ (n : ℕ). Some n) whole ∙ sym (digits_sum_some w (rw all at h) (omega (arith, whole, lt)))
