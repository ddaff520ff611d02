-- The first word of a line as a number, each byte looked at once.
use Rattle.std.proofs.Common.{◌≡◌, ◌≢◌, ℕ, zero, suc, ◌+◌, ◌*◌, ◌-◌, ◌^◌, ◌<◌, true, false, not, cond, ◌&&◌, eqb, ltb, List, [], ◌∷◌, ◌++◌, length, get_or, take, drop, Some, None, refl, sym, ap, ◌∙◌, arith}
use Rattle.std.specs.Char.{is_ascii_digit}
use Rattle.std.specs.List.{list_all}
use Rattle.std.specs.Str.Parse.{digits_value}
use Rattle.std.proofs.lemmas.Bool.{lt-ltb, ltb-true, and_parts}
use Rattle.std.proofs.lemmas.Bool.Decides.{nat_tests}
use Rattle.std.proofs.lemmas.Grind.{common_steps}
use Rattle.std.proofs.lemmas.List.{take_more, take-append-drop, drop_more}
use Rattle.std.proofs.Math.Seq.{take-length}
use Rattle.std.proofs.lemmas.List.Folds.{list_all-append}
use Rattle.lrc_script.specs.LineReading.{parts_of_read_line, is_line_read_as_decimal, line_read_number, line_read_digit_sum, line_read_may_begin_number, LineReadBeginsWithNumber, LineReadBeginsWithNoNumber}
use Rattle.lrc_script.proofs.Reading.Digits.{digits_sum_some, digits_sum_past_mul, digits_sum_past_add}
use Rattle.lrc_script.proofs.Reading.DecimalNumbers.{IsDecimalNumber, decimal_number_parts, decimal_number_whole}
use Rattle.lrc_script.proofs.Reading.Separators.{HasNoSeparator, HasNoSeparator-append, separator_behind_first_word, separator_absent_one_word, separator_word_front}

-- the first digits of a line, and their sum
pub record AreFirstNumberDigits (line : List ℕ) (at sum : ℕ) : Type 0 where
  pub begins : line_read_may_begin_number line ≡ true
  pub digits : list_all is_ascii_digit (take at line) ≡ true
  pub sum_is : sum ≡ digits_value 10 (take at line)
  pub small : sum < 2 ^ 32

first_number_digit_no_space : (b : ℕ) → is_ascii_digit b ≡ true → b ≢ 32
first_number_digit_no_space b h e = grind (arith, nat_tests, h, e)

pub first_number_digits_no_space : (w : List ℕ) → list_all is_ascii_digit w ≡ true → HasNoSeparator 32 w
first_number_digits_no_space [] h = tt
first_number_digits_no_space (b ∷ w) h =
    let both = and_parts (is_ascii_digit b) (list_all is_ascii_digit w) h in
    (first_number_digit_no_space b both.0, first_number_digits_no_space w both.1)

first_number_none : (w : List ℕ) → ((list_all is_ascii_digit w ≡ true) × (digits_value 10 w < 2 ^ 32) → ⊥) → line_read_number w ≡ None
first_number_none w never =
    elim (is_line_read_as_decimal w && ltb (digits_value 10 w) (2 ^ 32)) as
    (λ b. (is_line_read_as_decimal w && ltb (digits_value 10 w) (2 ^ 32)) ≡ b → cond b (Some (digits_value 10 w)) None ≡ None) [
      | true ↦ λ t.
          let both = and_parts (is_line_read_as_decimal w) (ltb (digits_value 10 w) (2 ^ 32)) t in
          absurd (never ((decimal_number_parts w both.0).digits, ltb-true _ _ both.1))
      | false ↦ λ t. refl
    ] refl

-- behind its first bytes a line goes on by one more
first_number_line_goes_on : (line : List ℕ) (i : ℕ) → i < length line → line ≡ take (i + 1) line ++ drop (i + 1) line
first_number_line_goes_on line i lt = sym (take-append-drop (i + 1) line)

-- its first digits and one byte more are the front of the first word, if that byte is no space
first_number_word_front : (line : List ℕ) (i : ℕ) (w : List ℕ) (words : List (List ℕ)) → i < length line
    → list_all is_ascii_digit (take i line) ≡ true → get_or line i 0 ≢ 32 → parts_of_read_line 32 line ≡ w ∷ words
    → (v : List ℕ) × (w ≡ (take i line ++ get_or line i 0 ∷ []) ++ v)
first_number_word_front line i w words lt digits other e =
    let front : HasNoSeparator 32 (take i line ++ get_or line i 0 ∷ []) =
    HasNoSeparator-append 32 (take i line) (get_or line i 0 ∷ []) (first_number_digits_no_space _ digits) (other, tt) in
    let same : line ≡ (take i line ++ get_or line i 0 ∷ []) ++ drop (i + 1) line =
    first_number_line_goes_on line i lt ∙ ap (λ (t : List ℕ). t ++ drop (i + 1) line) (take_more line i 0 lt) in
    let found = separator_word_front 32 _ (drop (i + 1) line) w words front (sym (ap (parts_of_read_line 32) same) ∙ e) in
    (found.0, found.1)

first_number_bools_apart : false ≡ true → ⊥
first_number_bools_apart e = cc

-- a byte that is no digit
pub first_number_letter : (line : List ℕ) (i : ℕ) → i < length line → list_all is_ascii_digit (take i line) ≡ true
    → get_or line i 0 ≢ 32 → is_ascii_digit (get_or line i 0) ≡ false → LineReadBeginsWithNoNumber line
first_number_letter line i lt digits other letter = λ w words e.
    let front = first_number_word_front line i w words lt digits other e in
    first_number_none w (λ is.
    let all : list_all is_ascii_digit ((take i line ++ get_or line i 0 ∷ []) ++ front.0) ≡ true =
    sym (ap (list_all is_ascii_digit) front.1) ∙ is.0 in
    let parts = and_parts _ _ (sym (list_all-append is_ascii_digit (take i line ++ get_or line i 0 ∷ []) front.0) ∙ all) in
    let inner = and_parts _ _ (sym (list_all-append is_ascii_digit (take i line) (get_or line i 0 ∷ [])) ∙ parts.0) in
    let last = and_parts (is_ascii_digit (get_or line i 0)) true inner.1 in
    absurd (first_number_bools_apart (sym letter ∙ last.0)))

-- what the first word has at the places of its first digits
pub record AreFirstNumberWordDigits (line w : List ℕ) (i : ℕ) : Type 0 where
  pub within : i < length w
  pub digit : is_ascii_digit (get_or w i 0) ≡ true
  pub last_is : get_or w i 0 ≡ get_or line i 0
  pub front_is : take i w ≡ take i line

first_number_word_digits : (line : List ℕ) (i : ℕ) (w : List ℕ) (words : List (List ℕ)) → i < length line
    → list_all is_ascii_digit (take i line) ≡ true → is_ascii_digit (get_or line i 0) ≡ true
    → parts_of_read_line 32 line ≡ w ∷ words → AreFirstNumberWordDigits line w i
first_number_word_digits line i w words lt digits digit e =
    let front = first_number_word_front line i w words lt digits (first_number_digit_no_space _ digit) e in
    let long : length (take i line) ≡ i = grind (arith, common_steps, lt) in
    let last : get_or w i 0 ≡ get_or line i 0 = grind (arith, common_steps, front.1, long) in
    record {
      within = grind (arith, common_steps, front.1, long);
      digit = ap is_ascii_digit last ∙ digit;
      last_is = last;
      front_is = grind (arith, common_steps, front.1, long);
    }

-- a sum that is too great
pub first_number_great : (line : List ℕ) (i : ℕ) → i < length line → list_all is_ascii_digit (take i line) ≡ true
    → is_ascii_digit (get_or line i 0) ≡ true
    → ((w : List ℕ) → AreFirstNumberWordDigits line w i → line_read_digit_sum w ≡ None) → LineReadBeginsWithNoNumber line
first_number_great line i lt digits digit past = λ w words e.
    let at = first_number_word_digits line i w words lt digits digit e in
    first_number_none w (λ is.
    absurd (let no : Some (digits_value 10 w) ≡ None = sym (digits_sum_some w is.0 is.1) ∙ past w at in cc))

pub first_number_great_mul : (line w : List ℕ) (i s : ℕ) → AreFirstNumberWordDigits line w i → s ≡ digits_value 10 (take i line)
    → (s * 10 < 2 ^ 32 → ⊥) → line_read_digit_sum w ≡ None
first_number_great_mul line w i s at is big =
    digits_sum_past_mul w i s at.within at.digit (is ∙ ap (digits_value 10) (sym at.front_is)) big

pub first_number_great_add : (line w : List ℕ) (i s : ℕ) → AreFirstNumberWordDigits line w i → s ≡ digits_value 10 (take i line)
    → (s * 10 + (get_or line i 0 - 48) < 2 ^ 32 → ⊥) → line_read_digit_sum w ≡ None
first_number_great_add line w i s at is big =
    digits_sum_past_add w i s at.within at.digit (is ∙ ap (digits_value 10) (sym at.front_is)) (λ small.
    big (rw at.last_is at small))

-- the first digits, if no digit follows, are a decimal number
first_number_by_digits : (line : List ℕ) (i sum : ℕ) → AreFirstNumberDigits line i sum → 0 < i → i < length line + 1
    → IsDecimalNumber (take i line)
first_number_by_digits [] i sum f some within = absurd (omega (arith, some, within))
first_number_by_digits (b ∷ []) i sum f some within = record {
  digits = f.digits;
  some = grind (arith, common_steps, some, within);
  alone = λ z. grind (arith, common_steps, some, within);
}
first_number_by_digits (b ∷ c ∷ line) zero sum f some within = absurd (omega (arith, some))
first_number_by_digits (b ∷ c ∷ line) (suc zero) sum f some within = record {
  digits = f.digits;
  some = omega arith;
  alone = λ z. refl;
}
first_number_by_digits (b ∷ c ∷ line) (suc (suc i)) sum f some within = record {
  digits = f.digits;
  some = omega arith;
  alone = λ z.
      let first = and_parts (is_ascii_digit b) _ f.digits in
      let second = and_parts (is_ascii_digit c) _ first.1 in
      let begins = and_parts (not (eqb b 32)) _ f.begins in
      absurd (grind (arith, nat_tests, z, begins.1, first_number_digit_no_space c second.0));
}

first_number_is_number : (line : List ℕ) (i sum : ℕ) → AreFirstNumberDigits line i sum → IsDecimalNumber (take i line)
    → line_read_number (take i line) ≡ Some sum
first_number_is_number line i sum f d =
    let small : ltb (digits_value 10 (take i line)) (2 ^ 32) ≡ true = lt-ltb _ _ (omega (arith, f.sum_is, f.small)) in
    rw (decimal_number_whole (take i line) d, small, f.sum_is) refl

first_number_some : (line : List ℕ) → line_read_may_begin_number line ≡ true → (0 < length line) × (get_or line 0 0 ≢ 32)
first_number_some [] e = absurd cc
first_number_some (b ∷ []) e = (omega arith, λ s. grind (arith, nat_tests, e, s))
first_number_some (b ∷ c ∷ line) e = (omega arith, λ s. grind (arith, nat_tests, e, s))

-- a space ends the number
pub first_number_found : (line : List ℕ) (i sum : ℕ) → AreFirstNumberDigits line i sum → i < length line → get_or line i 0 ≡ 32
    → LineReadBeginsWithNumber line sum (parts_of_read_line 32 (drop (i + 1) line))
first_number_found line i sum f lt space =
    let begun = first_number_some line f.begins in
    let some : 0 < i = elim i as (λ k. get_or line k 0 ≡ 32 → 0 < k) [
      | zero ↦ λ s. absurd (begun.1 s)
      | suc k ↦ λ s. omega arith
    ] space in
    let same : line ≡ take i line ++ 32 ∷ drop (i + 1) line =
    sym (take-append-drop i line) ∙ ap (λ (t : List ℕ). take i line ++ t)
    (drop_more line i 0 lt ∙ ap (λ (b : ℕ). b ∷ drop (i + 1) line) space) in (
      take i line,
      ap (parts_of_read_line 32) same
          ∙ separator_behind_first_word 32 (take i line) (drop (i + 1) line) (first_number_digits_no_space _ f.digits),
      first_number_is_number line i sum f (first_number_by_digits line i sum f some (omega arith)),
    )

-- the line ends with the number
pub first_number_last : (line : List ℕ) (i sum : ℕ) → AreFirstNumberDigits line i sum → i ≡ length line
    → LineReadBeginsWithNumber line sum []
first_number_last line i sum f end =
    let begun = first_number_some line f.begins in
    let whole : take i line ≡ line = ap (λ (n : ℕ). take n line) end ∙ take-length line in (
      take i line,
      ap (parts_of_read_line 32) (sym whole) ∙ separator_absent_one_word 32 (take i line) (first_number_digits_no_space _ f.digits),
      first_number_is_number line i sum f (first_number_by_digits line i sum f (omega (arith, end, begun.0)) (omega (arith, end))),
    )
