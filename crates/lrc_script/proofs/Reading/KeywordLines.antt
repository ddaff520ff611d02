-- A line of a keyword and numbers is read as that keyword and those numbers.
use Rattle.std.proofs.Common.{◌≡◌, ℕ, ◌^◌, ◌<◌, Bool, true, not, ◌&&◌, eqb, ltb, List, [], ◌∷◌, ◌++◌, length, map, Some, Ok, refl, ap, ◌∙◌, arith}
use Rattle.std.specs.Char.{is_ascii_digit}
use Rattle.std.specs.List.{list_all, flat_map, AllByRecursion}
use Rattle.std.specs.Fmt.{decimal}
use Rattle.std.proofs.lemmas.Bool.{and_parts}
use Rattle.std.proofs.lemmas.Bool.Decides.{nat_tests}
use Rattle.std.proofs.lemmas.List.{length-map}
use Rattle.lrc_script.specs.declared.line.LineKeyword.{LineKeyword}
use Rattle.lrc_script.specs.ScriptLines.{ScriptLine, script_line_spaced, script_line_bytes}
use Rattle.lrc_script.specs.ScriptFront.{ScriptFront}
use Rattle.lrc_script.specs.ScriptFaults.{IsWordOfLine, IsLineSplit}
use Rattle.lrc_script.specs.LineReading.{◌>>=◌, line_read_keyword, is_read_line_due, line_read_numbers_after, line_read_step, line_read_after, line_read_after_words, line_read_after_keyword}
use Rattle.lrc_script.proofs.Reading.DecimalNumbers.{AreDecimalNumbers, decimal_numbers_again, decimal_number_of}
use Rattle.lrc_script.proofs.Reading.Separators.{HasNoSeparator, HasNoSeparator-append, separator_words_of_split}

-- a first word: bytes, none of them a space or a line feed
abbrev pub is_plain_keyword_line : List ℕ → Bool
is_plain_keyword_line w = ltb 0 (length w) && list_all (λ b. not (eqb b 32) && not (eqb b 10)) w

pub keyword_line_plain_bytes : (w : List ℕ) → list_all (λ b. not (eqb b 32) && not (eqb b 10)) w ≡ true → HasNoSeparator 32 w × HasNoSeparator 10 w
keyword_line_plain_bytes [] h = (tt, tt)
keyword_line_plain_bytes (b ∷ w) h =
    let both = and_parts (not (eqb b 32) && not (eqb b 10)) (list_all (λ b. not (eqb b 32) && not (eqb b 10)) w) h in
    let rest = keyword_line_plain_bytes w both.1 in
    let test = both.0 in
    ((λ e. grind (arith, nat_tests, test, e), rest.0), (λ e. grind (arith, nat_tests, test, e), rest.1))

-- digits are neither spaces nor line feeds
keyword_line_digits_have_no : (c : ℕ) (w : List ℕ) → c < 48 → list_all is_ascii_digit w ≡ true → HasNoSeparator c w
keyword_line_digits_have_no c [] lt h = tt
keyword_line_digits_have_no c (b ∷ w) lt h =
    let both = and_parts (is_ascii_digit b) (list_all is_ascii_digit w) h in
    let test = both.0 in
    (λ e. grind (arith, nat_tests, test, e), keyword_line_digits_have_no c w lt both.1)

pub keyword_line_decimal_has_no : (c n : ℕ) → c < 48 → n < 2 ^ 32 → HasNoSeparator c (decimal n)
keyword_line_decimal_has_no c n lt small = keyword_line_digits_have_no c (decimal n) lt (decimal_number_of n (omega arith)).digits

pub keyword_line_numbers_are_words : (ns : List ℕ) → AreDecimalNumbers ns → AllByRecursion IsWordOfLine (map decimal ns)
keyword_line_numbers_are_words [] small = tt
keyword_line_numbers_are_words (n ∷ ns) small = (
  record {
    some = (decimal_number_of n (omega (arith, small.0))).some;
    no_space = keyword_line_decimal_has_no 32 n (omega arith) small.0;
  },
  keyword_line_numbers_are_words ns small.1,
)

keyword_line_numbers_have_no : (ns : List ℕ) → AreDecimalNumbers ns → HasNoSeparator 10 (flat_map script_line_spaced ns)
keyword_line_numbers_have_no [] small = tt
keyword_line_numbers_have_no (n ∷ ns) small =
    HasNoSeparator-append 10 (script_line_spaced n) (flat_map script_line_spaced ns)
    (λ e. absurd (omega (arith, e)), keyword_line_decimal_has_no 10 n (omega arith) small.0) (keyword_line_numbers_have_no ns small.1)

pub keyword_line_numbers_flat : (ns : List ℕ) → flat_map script_line_spaced ns ≡ flat_map (λ v. 32 ∷ v) (map decimal ns)
keyword_line_numbers_flat [] = refl
keyword_line_numbers_flat (n ∷ ns) = ap (λ (t : List ℕ). script_line_spaced n ++ t) (keyword_line_numbers_flat ns)

-- a line of a plain word and numbers is split into them
pub keyword_line_split : (word : List ℕ) (ns : List ℕ) → is_plain_keyword_line word ≡ true → AreDecimalNumbers ns
    → IsLineSplit (script_line_bytes (record { word = word; numbers = ns })) word (map decimal ns)
keyword_line_split word ns plain small =
    let both = and_parts (ltb 0 (length word)) (list_all (λ b. not (eqb b 32) && not (eqb b 10)) word) plain in
    let some = both.0 in
    record {
      first = record { some = grind (arith, nat_tests, some); no_space = (keyword_line_plain_bytes word both.1).0 };
      others = keyword_line_numbers_are_words ns small;
      whole = ap (λ (t : List ℕ). word ++ t) (keyword_line_numbers_flat ns);
    }

-- what reading does once the keyword is due
pub keyword_line_due : (f : ScriptFront) (line word : List ℕ) (ws : List (List ℕ)) (k : LineKeyword) → IsLineSplit line word ws
    → line_read_keyword word ≡ Some k → is_read_line_due f k (length ws) ≡ true → line_read_after f line ≡ (line_read_numbers_after [] ws >>= line_read_step f k)
unfolding line_read_after_keyword
keyword_line_due f line word ws k split key due =
    let parts = separator_words_of_split line word ws split in
    ap (line_read_after_words f) parts.0 ∙ rw (parts.1, key, due) refl

-- the line leads from what stands before it to what stands behind it
pub record KeywordLinePasses (f : ScriptFront) (l : ScriptLine) (g : ScriptFront) : Type 0 where
  pub after_is : line_read_after f (script_line_bytes l) ≡ Ok g
  pub one_line : HasNoSeparator 10 (script_line_bytes l)

pub keyword_line_passes : (f g : ScriptFront) (k : LineKeyword) (word : List ℕ) {ns : List ℕ} → line_read_keyword word ≡ Some k → is_plain_keyword_line word ≡ true
    → AreDecimalNumbers ns → is_read_line_due f k (length ns) ≡ true → line_read_step f k ns ≡ Ok g
    → KeywordLinePasses f (record { word = word; numbers = ns }) g
keyword_line_passes f g k word {ns = ns} key plain small due stepped =
    let both = and_parts (ltb 0 (length word)) (list_all (λ b. not (eqb b 32) && not (eqb b 10)) word) plain in
    let due' : is_read_line_due f k (length (map decimal ns)) ≡ true = rw length-map due in
    record {
      after_is =
          keyword_line_due f (script_line_bytes (record { word = word; numbers = ns })) word (map decimal ns) k
          (keyword_line_split word ns plain small) key due'
          ∙ rw (decimal_numbers_again [] ns small) stepped;
      one_line = HasNoSeparator-append 10 word (flat_map script_line_spaced ns) (keyword_line_plain_bytes word both.1).1 (keyword_line_numbers_have_no ns small);
    }
